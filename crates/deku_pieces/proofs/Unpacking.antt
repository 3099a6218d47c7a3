-- Symmetric values from bytes.
use Rattle.std.proofs.Common.{◌≡◌, ℕ, ◌+◌, ◌<◌, ◌^◌, false, List, ◌++◌, length, Option, Some, Result, Ok, Err, refl, ap, sym, ◌∙◌, subst, inl, inr, arith, length-append}
use Rattle.std.specs.Borrow.{Bor}
use Rattle.std.specs.declared.io.ErrorKind.TheVariants.{OutOfMemory}
use Rattle.deku_bits.specs.declared.error.DekuError.{DekuError}
use Rattle.deku_bits.specs.declared.error.DekuError.TheVariants.{Io}
use Rattle.deku_bits.specs.declared.ctx.Order.TheVariants.{Msb0}
use Rattle.deku_bits.specs.Streams.{Stream, fresh, passed, bit_count}
use Rattle.deku_bits.specs.Pieces.{Piece, laid_out}
use Rattle.deku_bits.specs.Standings.{Standing, Going, Output, count_of}
use Rattle.deku_bits.specs.Outcomes.{Meaning}
use Rattle.deku_bits.specs.ReaderCalls.{Skips}
use Rattle.deku_bits.proofs.Lengths.{length_law}
use Rattle.deku_bits.proofs.Reading.{read_law, left_none}
use Rattle.deku_bits.proofs.Rewriting.{rewrite_law}
use Rattle.deku_bits.proofs.Taking.{skip_law}
use Rattle.deku.specs.Composing.{Second, First}
use Rattle.deku.specs.Wholes.{Behind, FromFirst, IsRest, ReadsBytesOnce}
use Rattle.deku_pieces.specs.Symmetric.{breadth, Answers, IsSymmetric}
use Rattle.deku_pieces.specs.Packs.{InStep, Unpacks, UnpacksBack, TakesIts, WasTaken, LeavesRest, TakesFront}
use Rattle.deku_pieces.proofs.Answering.{ok_is}

err_is : {V : Type 0} (e d : DekuError) → ◌≡◌ {A = Result V DekuError} (Err e) (Err d) → e ≡ d
err_is e d p = cc

-- what is read from where a reader is is read from the first byte on
pub from_first : {V : Type 0} (m : Meaning (Option Stream) V) (bytes : List ℕ) (r : Result V DekuError) (s u : Standing (Option Stream)) → s ≡ Going (Some (fresh bytes)) 0 → m false s r u → FromFirst m bytes r u
from_first m bytes r s u e w = subst (λ x. m false x r u) e w

-- ---- after no bits
-- a skip of no bits leaves bytes as they are
skip_none : (bytes : List ℕ) (r : Result (Unit {0}) DekuError) (t : Standing (Option Stream)) → Skips Msb0 0 false (Going (Some (fresh bytes)) 0) r t
    → (r ≡ Ok tt) × (t ≡ Going (Some (fresh bytes)) 0)
skip_none bytes r t (inl (past, p)) = absurd (omega (arith, past))
skip_none bytes r t (inr (room, inl (has, ok, is))) = (ok, is ∙ ap (λ x. Going (Some x) 0) (skip_law Msb0 0 (fresh bytes) (omega arith) (omega arith) ∙ left_none Msb0 (fresh bytes)))
skip_none bytes r t (inr (room, inr (lacks, e))) = let none : bit_count (passed Msb0 0 (fresh bytes)) < 0 = lacks in absurd (omega (arith, none))

-- what is read after no bits is read from the first one on
pub behind_none : {V : Type 0} (m : Meaning (Option Stream) V) (bytes : List ℕ) (r : Result V DekuError) (u : Standing (Option Stream)) → FromFirst (Behind 0 m) bytes r u → FromFirst m bytes r u
behind_none m bytes r u (Second v t p q) = subst (λ s. m false s r u) (skip_none bytes (Ok v) t p).1 q
behind_none m bytes r u (First e p is) = let k = (skip_none bytes (Err e) u p).0 in absurd (cc)

-- ---- a symmetric type
module _ {V : Type 0} (pieces : V → List Piece → Type 0) (same : V → V → Type 0) (writes : V → Meaning Output (Unit {0})) (m : Meaning (Option Stream) V) (A : IsSymmetric pieces same writes m)
    (bytes : List ℕ) where
  answered_value : (v w : V) (T : Stream) (n count : ℕ) (u : Standing (Option Stream)) → count ≡ count_of u → Answers (same v) T n (Ok w) u → (count ≡ n) × same v w
  answered_value v w T n count u c (inl (x, g, e, f)) = (c ∙ ap count_of f, subst (same v) (sym (ok_is w x e)) g)
  answered_value v w T n count u c (inr e) = absurd (cc)

  answered_refusal : (v : V) (e : DekuError) (T : Stream) (n : ℕ) (u : Standing (Option Stream)) → Answers (same v) T n (Err e) u → e ≡ Io OutOfMemory
  answered_refusal v e T n u (inl (x, g, p, f)) = absurd (cc)
  answered_refusal v e T n u (inr p) = err_is e _ p

  -- what is returned where bytes begin with what the pieces of v lay out
  back : (v : V) (ps : List Piece) (after : List ℕ) → pieces v ps → InStep ps → bytes ≡ laid_out ps ++ after → breadth ps < 2 ^ 64
      → (r : Result V DekuError) (u : Standing (Option Stream)) → FromFirst m bytes r u → (T : Stream) × Answers (same v) T (breadth ps) r u
  back v ps after p aligned begins room r u w =
      let t = read_law ps after aligned in
      let none : 0 + breadth ps ≡ breadth ps = omega arith in
      (t.0, subst (λ n. Answers (same v) t.0 n r u) none (A.read_back v ps p (fresh (laid_out ps ++ after)) t.0 0 r u t.1 (omega (arith, room)) (subst (λ x. FromFirst m x r u) begins w)))

  pub unpacked_back : (r : Result (ℕ × V) DekuError) → Unpacks m bytes r → UnpacksBack pieces same bytes r
  unpacked_back (Ok p) (u, w, c) v ps after h aligned begins room =
      let b = back v ps after h aligned begins room (Ok p.1) u w in
      answered_value v p.1 b.0 (breadth ps) p.0 u c b.1
  unpacked_back (Err e) (u, w) v ps after h aligned begins room =
      let b = back v ps after h aligned begins room (Err e) u w in
      answered_refusal v e b.0 (breadth ps) u b.1

  -- a value that is read has pieces that were taken
  found : (v : V) (n : ℕ) (u : Standing (Option Stream)) → n ≡ count_of u → FromFirst m bytes (Ok v) u → WasTaken pieces bytes n v
  found v n u c w =
      let a = A.read v (fresh bytes) 0 u w in
      record {
        taken = a.taken;
        has = a.has;
        width = c ∙ ap count_of (a.stands) ∙ omega arith;
        rest = a.rest;
        takes = a.takes;
        laid = λ aligned small. rewrite_law a.taken bytes a.rest aligned small (a.takes);
      }

  pub unpacked_taken : (r : Result (ℕ × V) DekuError) → Unpacks m bytes r → TakesIts pieces bytes r
  unpacked_taken (Err e) w = tt
  unpacked_taken (Ok p) (u, w, c) = found p.1 p.0 u c w

  -- ---- with the rest of the bytes
  pub rest_back : (r : Result ((Bor (List ℕ) × ℕ) × V) DekuError) → ReadsBytesOnce (Behind 0 m) bytes r → LeavesRest pieces same bytes r
  rest_back (Ok p) (u, w, rest) v ps after h aligned begins room =
      let b = back v ps after h aligned begins room (Ok p.1) u (behind_none m bytes (Ok p.1) u w) in
      let c = answered_value v p.1 b.0 (breadth ps) (count_of u) u refl b.1 in
      (subst (λ n. IsRest bytes n p.0.0 p.0.1) c.0 rest, c.1)
  rest_back (Err e) (inl (u, w)) v ps after h aligned begins room =
      let b = back v ps after h aligned begins room (Err e) u (behind_none m bytes (Err e) u w) in
      answered_refusal v e b.0 (breadth ps) u b.1
  rest_back (Err e) (inr (x, u, w, past, is)) v ps after h aligned begins room =
      let b = back v ps after h aligned begins room (Ok x) u (behind_none m bytes (Ok x) u w) in
      let c = answered_value v x b.0 (breadth ps) (count_of u) u refl b.1 in
      let n : count_of u ≡ breadth ps = c.0 in
      let l : length bytes ≡ length (laid_out ps) + length after = ap length begins ∙ length-append (laid_out ps) after in
      absurd (omega (arith, past, n, l, length_law ps aligned))

  pub rest_taken : (r : Result ((Bor (List ℕ) × ℕ) × V) DekuError) → ReadsBytesOnce (Behind 0 m) bytes r → TakesFront pieces bytes r
  rest_taken (Err e) w = tt
  rest_taken (Ok p) (u, w, rest) = (count_of u, found p.1 (count_of u) u refl (behind_none m bytes (Ok p.1) u w), rest)
