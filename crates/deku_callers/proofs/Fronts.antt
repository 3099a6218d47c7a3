-- What a source has left after a value that was read from its front.
use Rattle.std.proofs.Common.{◌≡◌, ℕ, Bool, false, List, [], drop, Option, None, Some, Result, Ok, Err, IfOk, refl, ap, sym, ◌∙◌, subst, arith, inl, inr}
use Rattle.std.specs.Prelude.{IfSome}
use Rattle.deku_bits.specs.declared.error.DekuError.{DekuError}
use Rattle.deku_bits.specs.declared.ctx.Order.TheVariants.{Msb0}
use Rattle.deku_bits.specs.Bits.{groups}
use Rattle.deku_bits.specs.Streams.{Stream, skipped}
use Rattle.deku_bits.specs.Pieces.{Piece}
use Rattle.deku_bits.specs.Devices.{KnownSource}
use Rattle.deku_bits.specs.Standings.{Standing, Going, Stopped, Output, count_of, stream_of, reader_state}
use Rattle.deku_bits.specs.Outcomes.{Meaning}
use Rattle.deku_bits.proofs.Handing.{meant}
use Rattle.deku.specs.Composing.{First, Second}
use Rattle.deku.specs.Wholes.{Behind, ReadsOnce, TellsBehind}
use Rattle.deku_symmetry.specs.Symmetric.{IsSymmetric, breadth}

-- a reader counts what its state does
counts_same : (remaining : Option (List ℕ)) (s : Standing (List Bool)) → count_of (reader_state remaining s) ≡ count_of s
counts_same remaining (Going w c) = refl
counts_same remaining (Stopped w e c) = refl

module _ {V : Type 0} {pieces : V → List Piece → Type 0} {same : V → V → Type 0} {writes : V → Meaning Output (Unit {0})} {m : Meaning (Option Stream) V} (A : IsSymmetric pieces same writes m)
    (wide : ℕ) (all : (v : V) (ps : List Piece) → pieces v ps → breadth ps ≡ wide) where
  -- a value of so many bits that is read after no bits counts these
  count : (S : Stream) (v : V) (u : Standing (Option Stream)) → Behind 0 m false (Going (Some S) 0) (Ok v) u → count_of u ≡ wide
  count S v u (Second w t (inl (past, e)) q) = absurd (omega (arith, past))
  count S v u (Second w t (inr (room, inl (has, r, is))) q) =
      let a = A.read v (skipped Msb0 0 S) 0 u (subst (λ s. m false s (Ok v) u) is q) in
      let n : breadth a.taken ≡ wide = all v a.taken a.has in
      ap count_of a.stands ∙ omega (arith, n)
  count S v u (Second w t (inr (room, inr (lacks, e))) q) = let no = e.0 in absurd (cc)
  count S v u (First e p is) = absurd (cc)

  behind : (old new : Option (List ℕ)) (v : V) (n : ℕ) (s : Standing (List Bool)) → Behind 0 m false (Going (stream_of [] old) 0) (Ok v) (reader_state new s) → n ≡ count_of s
      → IfSome old (λ bytes. new ≡ Some (drop (groups n) bytes)) → IfSome old (λ bytes. (n ≡ wide) × (new ≡ Some (drop (groups wide) bytes)))
  behind None new v n s w c tells = tt
  behind (Some bytes) new v n s w c tells =
      let is : n ≡ wide = c ∙ sym (counts_same new s) ∙ count _ v _ w in
      (is, subst (λ k. new ≡ Some (drop (groups k) bytes)) is tells)

  pub front : {R P : Type 0} (known : R → KnownSource) (old new : R) (r : Result (ℕ × V) DekuError) → ReadsOnce known (Behind 0 m) old r new → P
      → IfOk r (λ p. P → TellsBehind p.0 (known old) (known new))
      → IfOk r (λ p. IfSome (known old).remaining (λ bytes. (p.0 ≡ wide) × ((known new).remaining ≡ Some (drop (groups wide) bytes))))
  front known old new (Err e) w no_read_ahead tells = tt
  front known old new (Ok p) w no_read_ahead tells = behind (known old).remaining (known new).remaining p.1 p.0 w.stands (meant w.reads).0 w.counts (tells no_read_ahead)
