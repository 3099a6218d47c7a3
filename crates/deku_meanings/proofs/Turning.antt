-- Slots that are turned over, one after the other.
use Rattle.std.proofs.Common.{◌≡◌, ◌≢◌, ℕ, zero, suc, ◌+◌, ◌<◌, ◌≤◌, List, [], ◌∷◌, length, get_or, set, Option, Some, None, map, refl, sym, ap, ◌∙◌, arith, ⊎_elim, length-set, get_or-set_other}
use denote.Param.Members.{Mut, Called}
use Rattle.std.specs.Option.{IsSome}
use Rattle.std.specs.List.{FoldsTo}
use Rattle.std.specs.Iterator.{Yields, CallableAtEachTurn}
use Rattle.std.specs.Array.{index_steps, IsFromFnResult, IsFromFnResultFrom}
use Rattle.std.proofs.lemmas.Bool.{cases_eq}
use Rattle.std.proofs.lemmas.List.{ext_get_or, get_or-map, length-map}

module _ {F T : Type 0} (v : F → List (Option T)) (g : Mut F (ℕ × Unit {0}) T) (n : ℕ)
    (may : (p : F) (x : ℕ) → (x < length (v p)) × IsSome (get_or (v p) x None) → g.pre p (x, tt))
    (does : (p : F) (x : ℕ) (r : T) (q : F) → Called g p (x, tt) r q → (get_or (v p) x None ≡ Some r) × (v q ≡ set (v p) x None)) where
  -- the slots from i on are full
  pub record FullFrom (i : ℕ) (p : F) : Type 0 where
    pub long : length (v p) ≡ n
    pub filled : (k : ℕ) → i ≤ k → k < n → IsSome (get_or (v p) k None)

  FullFrom-next : (i : ℕ) (p : F) (r : T) (q : F) → Called g p (i, tt) r q → FullFrom i p → FullFrom (i + 1) q
  FullFrom-next i p r q s h = let e = (does p i r q s).1 in record {
    long = rw (e, length-set (v p) i None) h.long;
    filled = λ k a b. let ne : k ≢ i = omega arith in rw (e, get_or-set_other (v p) i k None None ne) (h.filled k (omega arith) b);
  }

  callable_from : (xs : List ℕ) (i : ℕ) (p : F) (t : ℕ) (q : F) (x u : ℕ) → FullFrom i p → Yields (index_steps n) i xs t → FoldsTo (λ a y b. (r : T) × Called g a (y, tt) r b) p xs q → index_steps n t (Some x) u → g.pre q (x, tt)
  callable_from [] i p t q x u h y f s = let k = rw (y, f) at h in may q x (rw (s.1, k.long) s.0, rw s.1 (k.filled t (omega arith) s.0))
  callable_from (z ∷ xs) i p t q x u h y f s =
      callable_from xs y.0 f.0 t q x u (rw y.1.2 (FullFrom-next i p f.1.0 f.0 (rw y.1.1 at f.1.1) h)) y.2 f.2 s

  pub callable_at_each : (f : F) → length (v f) ≡ n → ((k : ℕ) → k < n → IsSome (get_or (v f) k None)) → CallableAtEachTurn (index_steps n) (λ p x q. (r : T) × Called g p (x, tt) r q) (λ p x. g.pre p (x, tt)) 0 f
  callable_at_each f l h = record { at = λ xs t q x u y s i. callable_from xs 0 f t q x u (record { long = l; filled = λ k a b. h k b }) y s i }

  read_from : (m i : ℕ) (p : F) (ys : List T) → IsFromFnResultFrom g p ys i m → (k : ℕ) (d : T) → i ≤ k → k < i + m → get_or (v p) k None ≡ Some (get_or ys k d)
  read_from zero i p ys h k d a b = absurd (omega arith)
  read_from (suc m) i p ys h k d a b =
      let known = does p i h.1 h.0 h.3 in
      ⊎_elim
      (λ (e : k ≡ i). rw (e, known.0, h.2.1 d) refl)
      (λ (ne : k ≢ i). sym (ap (λ l. get_or l k None) known.1 ∙ get_or-set_other (v p) i k None None ne) ∙ read_from m (i + 1) h.0 ys h.4 k d (omega arith) (omega arith))
      (cases_eq k i)

  pub turned_all : (f : F) (ys : List T) → length (v f) ≡ n → IsFromFnResult g f ys n → v f ≡ map (λ y. Some y) ys
  turned_all f [] l h = ext_get_or None (v f) [] (l ∙ sym h.long) (λ i b. absurd (omega (arith, l, h.long)))
  turned_all f (y ∷ ys) l h =
      ext_get_or None (v f) (map (λ z. Some z) (y ∷ ys)) (l ∙ sym h.long ∙ sym (length-map (y ∷ ys) (λ z. Some z)))
      (λ i b. read_from n 0 f (y ∷ ys) h.each i y (omega arith) (omega (arith, l)) ∙ sym (get_or-map (λ z. Some z) (y ∷ ys) i y None (omega (arith, l, h.long))))
