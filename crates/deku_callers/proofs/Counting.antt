-- Many items: their pieces, and what is made of as many that are read under a count.
use Rattle.std.proofs.Common.{◌≡◌, ℕ, ◌+◌, ◌*◌, ◌<◌, ◌^◌, Bool, List, [], ◌∷◌, length, take, drop, get_or, All, Option, Result, Ok, Err, MatchResult, refl, ap, ap₂, sym, ◌∙◌, subst, arith, append-nil}
use Rattle.std.specs.Global.{Vec}
use Rattle.std.specs.declared.io.ErrorKind.TheVariants.{OutOfMemory}
use Rattle.deku_bits.specs.declared.error.DekuError.{DekuError}
use Rattle.deku_bits.specs.declared.error.DekuError.TheVariants.{Io}
use Rattle.deku_bits.specs.Streams.{Stream}
use Rattle.deku_bits.specs.Pieces.{Piece, LengthLaw, laid_out}
use Rattle.deku_bits.specs.Standings.{count_of}
use Rattle.deku_bits.specs.Outcomes.{Meaning}
use Rattle.deku.specs.declared.ctx.Limit.{Limit}
use Rattle.deku.specs.declared.ctx.Limit.TheVariants.{Count}
use Rattle.deku.specs.Limits.{ReadsCount, ReadsUnder, MappedBy, ValueBy, RefusalBy}
use Rattle.deku_symmetry.specs.Symmetric.{breadth}
use Rattle.deku_symmetry.specs.Pieces.{OfEach, SameEach}
use Rattle.deku_symmetry.specs.Packs.{InStep, Unpacks}
use Rattle.deku_symmetry.specs.Counting.{CountedUnpackLaw}
use Rattle.deku_symmetry.proofs.HighFirst.{Has, Lies, Lying, bytes_lie, each_has, in_step, turns_lie}
use Rattle.deku_callers.specs.CountedNumbers.{IsRecordOf}
use Rattle.deku_callers.proofs.Headers.{Word, few, word_has, word_lies}

-- what of each item is in n bits is, of all of them, in as many times n bits
pub each_lies : {V : Type 0} (P : V → List Piece → Type 0) (n : ℕ) → ((v : V) → Lies (P v) n) → (vs : List V) → Lies (OfEach P vs) (n * length vs)
each_lies P n lies [] ps none = let e : 8 * 0 ≡ n * 0 = omega arith in subst (Lying ps) e (bytes_lie [] ps none)
each_lies P n lies (v ∷ vs) ps has =
    let e : n + n * length vs ≡ n * length (v ∷ vs) = omega arith in
    subst (Lying ps) e (turns_lie {m = n} {n = n * length vs} (lies v) (each_lies P n lies vs) ps has)

-- items that are the same one by one are the same list, where the same items are equal
pub same_list : {V : Type 0} (same : V → V → Type 0) → ((v w : V) → same v w → w ≡ v) → (vs ws : List V) → SameEach same vs ws → ws ≡ vs
same_list same equal [] [] s = refl
same_list same equal [] (w ∷ ws) s = absurd s
same_list same equal (v ∷ vs) [] s = absurd s
same_list same equal (v ∷ vs) (w ∷ ws) s = ap₂ (λ x xs. x ∷ xs) (equal v w s.0) (same_list same equal vs ws s.1)

-- items that have pieces, each of n bits, whose bits can be counted
pub record AreLaid {V : Type 0} (P : V → List Piece → Type 0) (vs : List V) : Type 0 where
  pub pieces : List Piece
  pub has : OfEach P vs pieces
  pub in_turn : InStep pieces
  pub small : breadth pieces < 2 ^ 64
  pub few : 8 * length (laid_out pieces) < 2 ^ 64

-- items of given pieces
pub laid_from : LengthLaw → {V : Type 0} (P : V → List Piece → Type 0) (n : ℕ) → ((v : V) → Lies (P v) n) → (vs : List V) (ps : List Piece) → OfEach P vs ps → n * length vs + 7 < 2 ^ 64
    → (laid : AreLaid P vs) × (laid.pieces ≡ ps)
laid_from long P n lies vs ps has room =
    let l = each_lies P n lies vs ps has in
    let wide : breadth ps ≡ n * length vs = l.wide in
    (record { pieces = ps; has = has; in_turn = in_step l; small = omega (arith, wide, room); few = few long ps (n * length vs) (in_step l) l.wide room }, refl)

-- items that are in the ranges of their types
pub are_laid : LengthLaw → {V : Type 0} (P : V → List Piece → Type 0) (n : ℕ) (good : V → Type 0) → ((v : V) → good v → Has (P v)) → ((v : V) → Lies (P v) n)
    → (vs : List V) → All good vs → n * length vs + 7 < 2 ^ 64 → AreLaid P vs
are_laid long P n good has lies vs all room = let k = each_has P good has vs all in (laid_from long P n lies vs k.0 k.1 room).0

-- ---- numbers of 16 bits, high byte first
pub words_laid : LengthLaw → (ns : List ℕ) → All (λ n. n < 2 ^ 16) ns → 16 * length ns < 2 ^ 64 → AreLaid Word ns
words_laid long ns all room = are_laid long Word 16 (λ n. n < 2 ^ 16) word_has word_lies ns all (omega (arith, room))

pub same_number : (n k : ℕ) → n ≡ k → k ≡ n
same_number n k e = sym e

-- ---- what is read under a count
-- items that were read under a count of as many as were laid out were made of these; or no memory
-- was found
module _ {V C : Type 0} (P : V → List Piece → Type 0) (same : V → V → Type 0) (equal : (v w : V) → same v w → w ≡ v) (m : Meaning (Option Stream) V) (back : CountedUnpackLaw P same m)
    (makes : List V → C → Type 0) where
  err_is : (e d : DekuError) → ◌≡◌ {A = Result C DekuError} (Err e) (Err d) → e ≡ d
  err_is e d q = cc

  ok_is : (c d : C) → ◌≡◌ {A = Result C DekuError} (Ok c) (Ok d) → c ≡ d
  ok_is c d q = cc

  collected : (vs : List V) (laid : AreLaid P vs) (bytes : List ℕ) → bytes ≡ laid_out laid.pieces → (r : Result (ℕ × C) DekuError) → Unpacks (MappedBy makes (ReadsCount (length vs) m)) bytes r
      → MatchResult r (λ p. makes vs p.1) (λ e. e ≡ Io OutOfMemory)
  collected vs laid bytes is (Ok p) (u, ValueBy xs c read made q, count) =
      let found = back (length vs) bytes (Ok (count_of u, xs)) (u, read, refl) vs laid.pieces [] (refl, laid.has) laid.in_turn (is ∙ sym (append-nil (laid_out laid.pieces))) laid.small in
      let here : makes xs p.1 = subst (makes xs) (sym (ok_is p.1 c q)) made in
      subst (λ ys. makes ys p.1) (same_list same equal vs xs found.1) here
  collected vs laid bytes is (Ok p) (u, RefusalBy e refused q, count) = absurd (cc)
  collected vs laid bytes is (Err e) (u, ValueBy xs c read made q) = absurd (cc)
  collected vs laid bytes is (Err e) (u, RefusalBy d refused q) =
      let none = back (length vs) bytes (Err d) (u, refused) vs laid.pieces [] (refl, laid.has) laid.in_turn (is ∙ sym (append-nil (laid_out laid.pieces))) laid.small in
      err_is e d q ∙ none

  pub made : {Q : Type 0} (answers : Q → V → Bool → Q → Type 0) (ended : Q → Type 0) (limit : Limit V Q) (n : ℕ) (vs : List V) (laid : AreLaid P vs) (bytes : List ℕ) → limit ≡ Count n → n ≡ length vs
      → bytes ≡ laid_out laid.pieces → (r : Result (ℕ × C) DekuError) → Unpacks (MappedBy makes (ReadsUnder answers ended limit m)) bytes r → MatchResult r (λ p. makes vs p.1) (λ e. e ≡ Io OutOfMemory)
  made {Q} answers ended limit n vs laid bytes counts many is r unpacks =
      let count : limit ≡ Count (length vs) = counts ∙ ap (λ k. Count k) many in
      collected vs laid bytes is r (subst (λ l. Unpacks (MappedBy makes (ReadsUnder answers ended l m)) bytes r) count unpacks)

-- ---- numbers after a byte that counts them
-- such bytes are a record of the numbers
pub recorded : (ns : List ℕ) (laid : AreLaid Word ns) (count : ℕ) (bytes : List ℕ) → count ≡ length ns → bytes ≡ laid_out laid.pieces → (r : Result (Vec ℕ) DekuError)
    → MatchResult r (λ v. v.items ≡ count ∷ bytes) (λ e. e ≡ Io OutOfMemory) → MatchResult r (λ v. IsRecordOf ns v.items) (λ e. e ≡ Io OutOfMemory)
recorded ns laid count bytes many laid_is (Ok v) same = record { behind = bytes; numbers = (laid.pieces, laid.has, laid_is); is = same ∙ ap (λ n. n ∷ bytes) many }
recorded ns laid count bytes many laid_is (Err e) same = same

pub first_is : (first bytes behind : List ℕ) (n : ℕ) → first ≡ take 1 bytes → bytes ≡ n ∷ behind → get_or first 0 0 ≡ n
first_is first bytes behind n front is = ap (λ x. get_or x 0 0) (front ∙ ap (λ x. take 1 x) is)

pub rest_is : (rest bytes behind : List ℕ) (n : ℕ) → rest ≡ drop 1 bytes → bytes ≡ n ∷ behind → rest ≡ behind
rest_is rest bytes behind n back is = back ∙ ap (λ x. drop 1 x) is
