-- The last values of pairs, and the pieces of pairs and of bytes.
use Rattle.std.proofs.Common.{◌≡◌, ℕ, ◌*◌, ◌<◌, ◌^◌, Bool, true, false, cond, List, [], ◌∷◌, length, All, Option, None, Some, refl, ap₂, sym, ◌∙◌, arith}
use Rattle.std.specs.Prelude.{nat_eq}
use Rattle.std.specs.Cmp.{nat_eq_equiv}
use Rattle.std.specs.Map.{update, update_all}
use Rattle.deku_bits.specs.Pieces.{Piece, LengthLaw}
use Rattle.deku_num.specs.declared.ctx.Size.TheVariants.{Whole}
use Rattle.deku_num.specs.Numbers.{byte}
use Rattle.deku_symmetry.specs.Pieces.{OfUnsigned, InTurn, high_first}
use Rattle.deku_symmetry.proofs.HighFirst.{Has, Lies, byte_has, number_lies, turns_have, turns_lie}
use Rattle.deku_callers.specs.LastValues.{first_some, last_value}
use Rattle.deku_callers.proofs.Headers.{Word, word_has, word_lies}
use Rattle.deku_callers.proofs.Counting.{AreLaid, are_laid}

-- ---- the last value
later : (last found : Option ℕ) (here : Bool) (v : ℕ) → first_some last (cond here (Some v) found) ≡ first_some (first_some last (cond here (Some v) None)) found
later (Some w) found here v = refl
later None found true v = refl
later None found false v = refl

-- pairs that are put into a map one after the other leave the last value of each key
updated : (f : ℕ → Option ℕ) (ps : List (ℕ × ℕ)) (key : ℕ) → update_all nat_eq f ps key ≡ first_some (last_value key ps) (f key)
updated f [] key = refl
updated f (p ∷ ps) key = updated (update nat_eq f p.0 (Some p.1)) ps key ∙ later (last_value key ps) (f key) (nat_eq p.0 key) p.1

or_none : (v : Option ℕ) → first_some v None ≡ v
or_none None = refl
or_none (Some v) = refl

pub last_is : (ps : List (ℕ × ℕ)) (key : ℕ) → update_all nat_eq (λ _. None) ps key ≡ last_value key ps
last_is ps key = updated (λ _. None) ps key ∙ or_none (last_value key ps)

in_front : (here : Bool) (last : ℕ) (second first : Option ℕ) → here ≡ true → first_some (first_some (first_some None (cond here (Some last) None)) second) first ≡ Some last
in_front true last second first e = refl
in_front false last second first e = absurd (cc)

-- of a key with two values, and any pair between them, the last is the last value
pub last_of_two : (key value last : ℕ) (between : ℕ × ℕ) → last_value key ((key, value) ∷ between ∷ (key, last) ∷ []) ≡ Some last
last_of_two key value last between =
    in_front (nat_eq key key) last (cond (nat_eq between.0 key) (Some between.1) None) (cond (nat_eq key key) (Some value) None) (nat_eq_equiv.refl key)

-- ---- the pieces of pairs
abbrev pub Byte : ℕ → List Piece → Type 0
Byte = OfUnsigned byte (high_first Whole)

abbrev pub Pair : ℕ × ℕ → List Piece → Type 0
Pair p = InTurn (Byte p.0) (Word p.1)

abbrev pub SamePair : ℕ × ℕ → ℕ × ℕ → Type 0
SamePair p q = (p.0 ≡ q.0) × (p.1 ≡ q.1)

-- its numbers are those of their types
abbrev pub IsOfType : ℕ × ℕ → Type 0
IsOfType p = (p.0 < 2 ^ 8) × (p.1 < 2 ^ 16)

pair_has : (p : ℕ × ℕ) → IsOfType p → Has (Pair p)
pair_has p fits = turns_have {P = Byte p.0} {Q = Word p.1} (byte_has Whole p.0 (omega arith) (fits.0)) (word_has p.1 fits.1)

pair_lies : (p : ℕ × ℕ) → Lies (Pair p) 24
pair_lies p = turns_lie {m = 8} {n = 16} (number_lies byte Whole p.0) (word_lies p.1)

pub pairs_laid : LengthLaw → (ps : List (ℕ × ℕ)) → All IsOfType ps → 24 * length ps < 2 ^ 64 → AreLaid Pair ps
pairs_laid long ps all room = are_laid long Pair 24 IsOfType pair_has pair_lies ps all (omega (arith, room))

pub same_pair : (p q : ℕ × ℕ) → SamePair p q → q ≡ p
same_pair p q (a, b) = ap₂ (λ x y. (x, y)) (sym a) (sym b)

-- ---- the pieces of bytes
abbrev IsByte : ℕ → Type 0
IsByte n = n < 2 ^ 8

small_has : (n : ℕ) → IsByte n → Has (Byte n)
small_has n small = byte_has Whole n (omega arith) small

pub bytes_laid : LengthLaw → (ns : List ℕ) → All (λ n. n < 2 ^ 8) ns → 8 * length ns < 2 ^ 64 → AreLaid Byte ns
bytes_laid long ns all room = are_laid long Byte 8 IsByte small_has (λ n. number_lies byte Whole n) ns all (omega (arith, room))
