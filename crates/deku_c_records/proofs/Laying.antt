-- Symmetric values over bytes: what they lay out, and what stays after it.
use Rattle.std.proofs.Common.{◌≡◌, ℕ, ◌*◌, ◌<◌, ◌≤◌, ◌^◌, false, List, [], ◌++◌, length, take, drop, Option, Some, None, Result, Ok, Err, ap, ap₂, sym, ◌∙◌, arith, ⊎_elim}
use Rattle.std.proofs.lemmas.List.{take-append-drop, length-take-le}
use Rattle.std.proofs.lemmas.Bool.{cases_lt, lt-leb, le-leb}
use Rattle.std.specs.Io.KnownBytes.{Appends}
use Rattle.deku_bits.specs.declared.error.DekuError.{DekuError}
use Rattle.deku_bits.specs.Devices.{bytes_before, Shrinks}
use Rattle.deku_bits.specs.Pieces.{Piece, laid_out}
use Rattle.deku_bits.specs.Writers.{Written, finalized}
use Rattle.deku_bits.specs.Symmetry.{followed, appended}
use Rattle.deku_bits.specs.Standings.{Standing, Going, Output}
use Rattle.deku_bits.specs.Outcomes.{Meaning}
use Rattle.deku_bits.specs.WriterCalls.{Finalizes}
use Rattle.deku_bits.proofs.Writing.{write_law}
use Rattle.deku.specs.Composing.{Both}
use Rattle.deku.specs.Wholes.{WritesOver, over}
use Rattle.deku.proofs.Emitting.{Wrote, Done, Lacking, Full, emitted, followed_wrote}
use Rattle.deku_pieces.specs.Symmetric.{IsWrittenAs}
use Rattle.deku_pieces.proofs.Packing.{pieces_wrote}
use Rattle.deku_c_records.specs.Exported.{LaidOver}

-- aligned pieces, padded once, over a slice
padded_wrote : (m : Meaning Output (Unit {0})) (ps : List Piece) → IsWrittenAs ps m → (old : List ℕ) (r : Result (Unit {0}) DekuError) (u : Standing Output)
    → Both m Finalizes false (Going (over old) 0) r u → Wrote (followed (appended ps (over old).pending) finalized) (over old) 0 r u
padded_wrote m ps is old r u w =
    followed_wrote (appended ps (over old).pending) finalized (over old) 0 m (λ _. Finalizes) r u
    (λ x y n. pieces_wrote ps (over old) 0 x y (is false (Going (over old) 0) x y n))
    (λ mid d x y n. emitted finalized mid d x y n)
    w

taken_is : (bytes : List ℕ) (t : Option (List ℕ)) → Appends (Some []) t bytes → t ≡ Some bytes
taken_is bytes None g = absurd g
taken_is bytes (Some ys) g = ap Some g

outputs : (a b : Output) (m n : ℕ) → ◌≡◌ {A = Standing Output} (Going a m) (Going b n) → a ≡ b
outputs a b m n e = cc

-- the bytes before a place, which is not past the end
before_place : (n : ℕ) (xs bytes : List ℕ) → bytes_before n xs ≡ Some bytes → (n ≡ length bytes) × (take n xs ≡ bytes)
before_place n xs bytes e = ⊎_elim
    (λ (past : length xs < n). absurd (let k = rw (lt-leb n (length xs) past) at e in cc))
    (λ (inside : n ≤ length xs).
    let k = rw (le-leb n (length xs) inside) at e in
    let same : take n xs ≡ bytes = cc in
    (sym (length-take-le n xs inside) ∙ ap length same, same))
    (cases_lt (length xs) n)

-- the room of a slice after bytes were taken
room_left : (old : List ℕ) (r : Option (List ℕ)) (n : ℕ) (rest : List ℕ) → Shrinks (Some old) r n → r ≡ Some rest → rest ≡ drop n old
room_left old None n rest k e = absurd k
room_left old (Some x) n rest k e = let f : x ≡ rest = cc in sym f ∙ k.1

module _ (w : Written) (old bytes : List ℕ) (is : w.bytes ≡ bytes) (enough : length bytes ≤ length old) (small : 8 * length bytes < 2 ^ 64) where
  -- what was given
  given : (n : ℕ) (new : List ℕ) (out : Output) (c : ℕ) → Wrote w (over old) 0 (Ok tt) (Going out c) → out.taken ≡ bytes_before n new → out.room ≡ Some (drop n new)
      → (◌≡◌ {A = Result ℕ DekuError} (Ok n) (Ok (length bytes))) × (new ≡ bytes ++ drop (length bytes) old)
  given n new out c (Done after t e f) taken room =
      let same : out ≡ after = outputs out after c _ f in
      let before : bytes_before n new ≡ Some bytes = sym taken ∙ ap (λ o. o.taken) same ∙ taken_is w.bytes after.taken t.taken ∙ ap Some is in
      let k = before_place n new bytes before in
      let rest : drop n new ≡ drop (length w.bytes) old = room_left old after.room (length w.bytes) (drop n new) t.room (ap (λ o. o.room) (sym same) ∙ room) in
      (ap Ok k.0, sym (take-append-drop n new) ∙ ap₂ (λ x y. x ++ y) k.1 (rest ∙ ap (λ x. drop (length x) old) is))
  given n new out c (Lacking kind l e) taken room = absurd (cc)
  given n new out c (Full x p e) taken room = absurd (cc)

  -- nothing that there is room for is refused
  granted : (e : DekuError) (u : Standing Output) → Wrote w (over old) 0 (Err e) u → ⊥
  granted e u (Done after t f g) = absurd (cc)
  granted e u (Lacking kind l f) = let k : length w.bytes ≡ length bytes = ap length is in absurd (omega (arith, l.1, enough, k))
  granted e u (Full x p f) = let k : length w.bytes ≡ length bytes = ap length is in absurd (omega (arith, p, small, k))

-- aligned pieces for which there is room are written as what they lay out, padded once
pub laid_over : (m : Meaning Output (Unit {0})) (pieces : List Piece → Type 0) → ((ps : List Piece) → pieces ps → IsWrittenAs ps m) → (old : List ℕ) (r : Result ℕ DekuError) (new : List ℕ)
    → WritesOver (Both m Finalizes) old r new → LaidOver pieces old r new
laid_over m pieces each old (Ok n) new (out, c, w, taken, room) ps p aligned enough small =
    given _ old (laid_out ps) (write_law ps aligned) enough small n new out c (padded_wrote m ps (each ps p) old (Ok tt) (Going out c) w) taken room
laid_over m pieces each old (Err e) new (u, w, n, taken, room) ps p aligned enough small =
    absurd (granted _ old (laid_out ps) (write_law ps aligned) enough small e u (padded_wrote m ps (each ps p) old (Err e) u w))
