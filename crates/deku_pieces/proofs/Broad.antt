-- Items of at least one bit each.
use Rattle.std.proofs.Common.{◌≡◌, ℕ, zero, suc, ◌+◌, ◌<◌, List, [], ◌∷◌, ◌++◌, refl, arith}
use Rattle.std.specs.Prelude.{⊤}
use Rattle.deku_bits.specs.Pieces.{Piece}
use Rattle.deku.specs.Limits.{Judge, Taken, GoesOn, Widens}
use Rattle.deku_pieces.specs.Pieces.{OfEach, OfEachBroad}

-- they are items
pub each_plain : {V : Type 0} (P : V → List Piece → Type 0) (vs : List V) (ps : List Piece) → OfEachBroad P vs ps → OfEach P vs ps
each_plain P [] ps p = p
each_plain P (v ∷ vs) ps (a, b, p, q, e) = (a, b, p.0, each_plain P vs b q, e)

-- each item raised the count of bits
abbrev pub AllWiden : {A T : Type 0} → List (Taken A T) → Type 0
AllWiden [] = ⊤
AllWiden (x ∷ xs) = Widens x × AllWiden xs

-- each item before the end of a list did
pub each_widens : {A T J : Type 0} (judge : Judge A T J) (xs : List (Taken A T)) (j k : J) → GoesOn judge j xs k → AllWiden xs
each_widens judge [] j k on = tt
each_widens judge (x ∷ xs) j k (i, both, on) = (both.1, each_widens judge xs i k on)

-- and one more
pub all_widen : {A T : Type 0} (xs : List (Taken A T)) (x : Taken A T) → AllWiden xs → Widens x → AllWiden (xs ++ x ∷ [])
all_widen [] x all one = (one, tt)
all_widen (y ∷ ys) x all one = (all.0, all_widen ys x all.1 one)

-- a sum whose second part is not zero is more than its first
pub less_unless : (x y z : ℕ) → x + y ≡ z → (y ≡ 0 → ⊥) → x < z
less_unless x zero z e some = absurd (some refl)
less_unless x (suc y) z e some = omega (arith, e)
