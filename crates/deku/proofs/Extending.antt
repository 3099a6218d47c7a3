-- What is written as exactly so many bits, one after the other.
use Rattle.std.proofs.Common.{◌≡◌, ℕ, suc, ◌+◌, ◌*◌, Bool, false, List, [], ◌∷◌, ◌++◌, length, map, Result, Ok, Err, subst, arith}
use Rattle.std.specs.List.{All}
use Rattle.deku_bits.specs.declared.error.DekuError.{DekuError}
use Rattle.deku_bits.specs.Pieces.{Piece, shape, total}
use Rattle.deku_bits.specs.Standings.{Standing, Output}
use Rattle.deku_bits.specs.Outcomes.{Meaning}
use Rattle.deku_meanings.specs.Composing.{Answered, Both, Second, First}
use Rattle.deku_writing.specs.Composing.{WritesEach}
use Rattle.deku.specs.Extents.{WritesPieces, IsSized}

-- the widths of both
joined_wide : (ps qs : List Piece) → total (map shape (ps ++ qs)) ≡ total (map shape ps) + total (map shape qs)
joined_wide [] qs = omega arith
joined_wide (p ∷ ps) qs = omega (arith, joined_wide ps qs)

-- some pieces and then others
pub joined_ok : (ps qs : List Piece) (b : Bool) (s t : Standing Output) (r : Result (Unit {0}) DekuError) (u : Standing Output)
    → WritesPieces ps false s (Ok tt) t → WritesPieces qs b t r u → WritesPieces (ps ++ qs) b s r u
joined_ok [] qs b s t r u Answered k = k
joined_ok (p ∷ ps) qs b s t r u (Second v w m n) k = Second v w m (joined_ok ps qs b w t r u n k)
joined_ok (p ∷ ps) qs b s t r u (First e m q) k = absurd (cc)

-- some pieces are refused, and then so are all
pub joined_err : (ps qs : List Piece) (b : Bool) (s : Standing Output) (e : DekuError) (u : Standing Output)
    → WritesPieces ps b s (Err e) u → WritesPieces (ps ++ qs) b s (Err e) u
joined_err [] qs b s e u k = elim k [ ]
joined_err (p ∷ ps) qs b s e u (Second v w m n) = Second v w m (joined_err ps qs b w e u n)
joined_err (p ∷ ps) qs b s e u (First x m q) = First x m q

pub joined_sized : (m o : Meaning Output (Unit {0})) (n k : ℕ) → IsSized n m → IsSized k o → IsSized (n + k) (Both m o)
joined_sized m o n k p q = record { pieces = p.pieces ++ q.pieces; wide = omega (arith, joined_wide p.pieces q.pieces, p.wide, q.wide); written = written }
  where
    written : (b : Bool) (s : Standing Output) (r : Result (Unit {0}) DekuError) (u : Standing Output) → Both m o b s r u → WritesPieces (p.pieces ++ q.pieces) b s r u
    written b s r u (Second v t x y) = joined_ok p.pieces q.pieces b s t r u (p.written false s (Ok v) t x) (q.written b t r u y)
    written b s r u (First e x is) = rw is (joined_err p.pieces q.pieces b s e u (p.written b s (Err e) u x))

-- items of so many bits each
pub items_sized : {V : Type 0} (m : V → Meaning Output (Unit {0})) (k : ℕ) (vs : List V) → All (λ v. IsSized k (m v)) vs → IsSized (length vs * k) (WritesEach m vs)
items_sized m k [] h = record { pieces = []; wide = omega arith; written = λ b s r u p. p }
items_sized m k (v ∷ vs) h =
    subst (λ n. IsSized n (WritesEach m (v ∷ vs))) (omega arith)
    (joined_sized (m v) (WritesEach m vs) k (length vs * k) (h 0 v (omega arith)) (items_sized m k vs (λ i d l. h (suc i) d (omega arith))))
