-- Sets and maps into which items are put, one after the other.
use Rattle.std.specs.Prelude.{◌≡◌, Bool, not, List, []}
use Rattle.std.specs.List.{FoldsTo}
use Rattle.std.specs.HashMap as hash
use Rattle.std.specs.HashMap.{HashMap}
use Rattle.std.specs.HashSet as bag
use Rattle.std.specs.HashSet.{HashSet}

-- An item that is equal to none of the set is added to it, at an unspecified place. Any other item
-- changes nothing.
abbrev pub PutsItem : {T S : Type 0} → (T → T → Bool) → HashSet T S → T → HashSet T S → Type 0
PutsItem eq m x n = bag.PutsKey m n x (not (bag.contains eq m x))

-- The set that these items make of an empty set. Of equal items it has the first.
abbrev pub IsSetOf : {T S : Type 0} → (T → T → Bool) → List T → HashSet T S → Type 0
IsSetOf {T} {S} eq xs n = (m : HashSet T S) × (m.keys ≡ []) × FoldsTo (PutsItem eq) m xs n

-- A key that is equal to none of the map is added to it with its value, at an unspecified place. At
-- any other key the value changes, and the key stays.
abbrev pub PutsPair : {K V S : Type 0} → (K → K → Bool) → HashMap K V S → K × V → HashMap K V S → Type 0
PutsPair eq m p n = hash.PutsEntry eq m n p.0 p.1 (hash.get eq m p.0)

-- The map that these pairs make of an empty map. Of equal keys it has the first, with the last
-- value.
abbrev pub IsMapOf : {K V S : Type 0} → (K → K → Bool) → List (K × V) → HashMap K V S → Type 0
IsMapOf {K} {V} {S} eq xs n = (m : HashMap K V S) × (m.entries ≡ []) × FoldsTo (PutsPair eq) m xs n
