-- Collections that items were put into, one after the other.
use Rattle.std.proofs.Common.{◌≡◌, Bool, true, false, cond, ◌||◌, List, [], ◌∷◌, ◌++◌, refl, sym, subst, Some, None, ap, ◌∙◌}
use Rattle.std.specs.List.{FoldsTo}
use Rattle.std.specs.Global.{Vec}
use Rattle.std.specs.HashMap as hash
use Rattle.std.specs.HashMap.{HashMap}
use Rattle.std.specs.HashSet as bag
use Rattle.std.specs.HashSet.{HashSet}
use Rattle.std.specs.Set.{is_member}
use Rattle.std.specs.Cmp.{IsEquivalence}
use Rattle.std.proofs.lemmas.List.Folds.{list_any-append}
use Rattle.std.proofs.lemmas.Fn.{chained_keeps, FoldsTo-push}
use Rattle.std.proofs.lemmas.Map.{update_all_push}
use Rattle.deku_meanings.specs.Collected.{PutsItem, IsSetOf, PutsPair, IsMapOf}

-- a vector has them in order
pub vec_of : {T : Type 0} (b : Vec T) (xs : List T) (v : Vec T) → b.items ≡ [] → FoldsTo (λ v x w. w.items ≡ v.items ++ x ∷ []) b xs v → v.items ≡ xs
vec_of b xs v e h = chained_keeps (λ v x w. w.items ≡ v.items ++ x ∷ []) (λ ys q. q.items ≡ ys) (λ ys q x w j s. s ∙ ap (λ zs. zs ++ x ∷ []) j) xs b v e h

-- ---- maps
module _ {K V S : Type 0} (eq : K → K → Bool) where
  -- what putting a pair into a map makes of it
  abbrev pub puts_pair : HashMap K V S → K × V → HashMap K V S → Type 0
  puts_pair m p n = hash.Updates eq m n p.0 (Some p.1) × hash.IsUnique eq n × PutsPair eq m p n × (hash.hasher_of n ≡ hash.hasher_of m)

  empty_get : (b : HashMap K V S) → b.entries ≡ [] → (q : K) → hash.get eq b q ≡ None
  empty_get b e q = rw e

  -- a map has the last value of each key
  values_of : (b : HashMap K V S) (xs : List (K × V)) (m : HashMap K V S) → b.entries ≡ [] → hash.IsUnique eq b → FoldsTo puts_pair b xs m → hash.IsFromIterResult eq xs m
  values_of b xs m e u h =
      chained_keeps puts_pair (λ ys q. hash.IsFromIterResult eq ys q)
      (λ ys q x v j s. ((λ k. s.0.0 k ∙ update_all_push eq (λ _. None) (hash.get eq q) ys x k (j.0 k)), s.1))
      xs b m (empty_get b e, u) h

  -- it keeps its hasher
  pair_hasher : (P : S → Type 0) (b : HashMap K V S) (xs : List (K × V)) (m : HashMap K V S) → P (hash.hasher_of b) → FoldsTo puts_pair b xs m → P (hash.hasher_of m)
  pair_hasher P b xs m p h = chained_keeps puts_pair (λ ys q. P (hash.hasher_of q)) (λ ys q x v j s. subst P (sym s.3) j) xs b m p h

  -- and the first of equal keys
  pub map_of : (P : S → Type 0) (b : HashMap K V S) (xs : List (K × V)) (m : HashMap K V S) → b.entries ≡ [] → hash.IsUnique eq b → P (hash.hasher_of b) → FoldsTo puts_pair b xs m
      → hash.IsFromIterResult eq xs m × IsMapOf eq xs m × P (hash.hasher_of m)
  map_of P b xs m e u p h =
      (values_of b xs m e u h, (b, e, chained_keeps puts_pair (λ ys q. FoldsTo (PutsPair eq) b ys q) (λ ys q x v j s. FoldsTo-push (PutsPair eq) b ys q x v j s.2) xs b m refl h), pair_hasher P b xs m p h)

-- ---- sets
or_comm_last : (b c : Bool) → cond b true c ≡ (c || (b || false))
or_comm_last true true = refl
or_comm_last true false = refl
or_comm_last false true = refl
or_comm_last false false = refl

member_push : {T : Type 0} (eq : T → T → Bool) (laws : IsEquivalence eq) (ys : List T) (x k : T) (a b : Bool) → b ≡ cond (eq x k) true a → a ≡ is_member eq ys k → b ≡ is_member eq (ys ++ x ∷ []) k
member_push eq laws ys x k a b e f = rw (e, f, laws.symm x k, list_any-append (eq k) ys (x ∷ [])) (or_comm_last (eq k x) (is_member eq ys k))

module _ {T S : Type 0} (eq : T → T → Bool) (laws : IsEquivalence eq) where
  -- what putting an item into a set makes of it
  abbrev pub puts_key : HashSet T S → T → HashSet T S → Type 0
  puts_key m x n = bag.Updates eq m n x true × bag.IsUnique eq n × PutsItem eq m x n × (bag.hasher_of n ≡ bag.hasher_of m)

  -- a set has each of them
  members_of : (b : HashSet T S) (xs : List T) (m : HashSet T S) → b.keys ≡ [] → bag.IsUnique eq b → FoldsTo puts_key b xs m → bag.IsFromIterResult eq xs m
  members_of b xs m e u h =
      chained_keeps puts_key (λ ys q. bag.IsFromIterResult eq ys q)
      (λ ys q x v j s. ((λ k. member_push eq laws ys x k _ _ (s.0.0 k) (j.0 k)), s.1))
      xs b m ((λ k. rw e refl), u) h

  -- it keeps its hasher
  key_hasher : (P : S → Type 0) (b : HashSet T S) (xs : List T) (m : HashSet T S) → P (bag.hasher_of b) → FoldsTo puts_key b xs m → P (bag.hasher_of m)
  key_hasher P b xs m p h = chained_keeps puts_key (λ ys q. P (bag.hasher_of q)) (λ ys q x v j s. subst P (sym s.3) j) xs b m p h

  -- and the first of equal ones
  pub set_of : (P : S → Type 0) (b : HashSet T S) (xs : List T) (m : HashSet T S) → b.keys ≡ [] → bag.IsUnique eq b → P (bag.hasher_of b) → FoldsTo puts_key b xs m
      → bag.IsFromIterResult eq xs m × IsSetOf eq xs m × P (bag.hasher_of m)
  set_of P b xs m e u p h =
      (members_of b xs m e u h, (b, e, chained_keeps puts_key (λ ys q. FoldsTo (PutsItem eq) b ys q) (λ ys q x v j s. FoldsTo-push (PutsItem eq) b ys q x v j s.2) xs b m refl h), key_hasher P b xs m p h)
