-- Lists that end at a limit.
use Rattle.std.specs.Prelude.{◌≡◌, ◌⊎◌, ◌↔◌, ℕ, ◌+◌, ◌*◌, ◌^◌, ◌<◌, ◌≤◌, Bool, true, false, List, [], ◌∷◌, ◌++◌, length, map, Option, Result, Ok, Err, ⊤, codes}
use Rattle.std.specs.List.{FoldsTo}
use Rattle.std.specs.declared.io.ErrorKind.TheVariants.{OutOfMemory}
use Rattle.deku_bits.specs.declared.error.DekuError.{DekuError}
use Rattle.deku_bits.specs.declared.error.DekuError.TheVariants.{Parse, InvalidParam, Io}
use Rattle.deku_bits.specs.Faults.{Tells}
use Rattle.deku_bits.specs.Streams.{Stream}
use Rattle.deku_bits.specs.Standings.{Standing, count_of}
use Rattle.deku_bits.specs.Outcomes.{Meaning, Refuses}
use Rattle.deku_bits.specs.ReaderCalls.{Ending}
use Rattle.deku_num.specs.NumberCalls.{Checked}
use Rattle.deku_meanings.specs.declared.ctx.Limit.{Limit}
use Rattle.deku_meanings.specs.declared.ctx.Limit.TheVariants.{Count, Until, ByteSize, BitSize, End}
use Rattle.deku_meanings.specs.Composing.{Answer, Then}
use Rattle.deku_reading.specs.Lists.{Seen, Runs, Stored}

-- An item that was read, with the state of the reader before and after it.
pub record Taken (A T : Type 0) : Type 0 where
  pub item : T
  pub before : Standing A
  pub after : Standing A

-- The items alone.
abbrev pub taken_items : {A T : Type 0} → List (Taken A T) → List T
taken_items xs = map (λ x. x.item) xs

-- The item raised the count of bits read.
abbrev pub Widens : {A T : Type 0} → Taken A T → Type 0
Widens x = count_of x.before < count_of x.after

-- The item x is read from s, and u is left.
pub record TakesItem {A T : Type 0} (m : Meaning A T) (s : Standing A) (x : Taken A T) (u : Standing A) : Type 0 where
  pub from : x.before ≡ s
  pub read : m false s (Ok x.item) u
  pub left : x.after ≡ u

-- These items are read one after the other.
abbrev pub TakesEach : {A T : Type 0} → Meaning A T → Standing A → List (Taken A T) → Standing A → Type 0
TakesEach m s xs u = FoldsTo (TakesItem m) s xs u

-- What a limit says of an item: whether the list ends with it, and what the limit is after it.
abbrev pub Judge : Type 0 → Type 0 → Type 0 → Type 1
Judge A T J = J → Taken A T → Bool → J → Type 0

-- Each of these items has width, and the list ends with none of them.
abbrev pub GoesOn : {A T J : Type 0} → Judge A T J → J → List (Taken A T) → J → Type 0
GoesOn judge j xs k = FoldsTo (λ i x l. judge i x false l × Widens x) j xs k

-- Items are read one after the other. Each of them has width, except that an item that ends the
-- list may have none. The list ends with the first item that the limit ends it with, or before the
-- next item if the limit closes it there. It fails if the next item does, if the next item has no
-- width and does not end the list, or if there is no memory for it. In each case the limit is
-- dropped as it is after the last item.
pub data Judged {A T J : Type 0} (judge : Judge A T J) (closes : Standing A → Standing A → Type 0) (ended : J → Type 0) (j : J) (m : Meaning A T) (b : Bool) (s : Standing A) (r : Result (List T) DekuError) (u : Standing A) : Type 0 where
  EndsWith : (xs : List (Taken A T)) (x : Taken A T) (k l : J) → TakesEach m s (xs ++ x ∷ []) u → GoesOn judge j xs k → judge k x true l → ended l
      → b ≡ false → r ≡ Ok (taken_items (xs ++ x ∷ [])) → Judged judge closes ended j m b s r u
  Closes : (xs : List (Taken A T)) (k : J) (t : Standing A) → TakesEach m s xs t → GoesOn judge j xs k → closes t u → ended k
      → b ≡ false → r ≡ Ok (taken_items xs) → Judged judge closes ended j m b s r u
  ItemRefused : (xs : List (Taken A T)) (k : J) (t : Standing A) (e : DekuError) → TakesEach m s xs t → GoesOn judge j xs k → m b t (Err e) u → ended k
      → r ≡ Err e → Judged judge closes ended j m b s r u
  WithoutWidth : (xs : List (Taken A T)) (x : Taken A T) (k l : J) (e : DekuError) → TakesEach m s (xs ++ x ∷ []) u → GoesOn judge j xs k → judge k x false l → (Widens x → ⊥)
      → Tells Parse (codes "item without width") e → ended l → b ≡ false → r ≡ Err e → Judged judge closes ended j m b s r u
  Unplaced : (xs : List (Taken A T)) (x : Taken A T) (v : Bool) (k l : J) → TakesEach m s (xs ++ x ∷ []) u → GoesOn judge j xs k → judge k x v l → (v ≡ true) ⊎ Widens x → ended l
      → b ≡ false → r ≡ Err (Io OutOfMemory) → Judged judge closes ended j m b s r u

-- Items up to and including the first of which a predicate is true. The predicate is asked about
-- each item once, in order, and is then dropped.
abbrev pub ReadsUntil : {A T P : Type 0} → (P → T → Bool → P → Type 0) → (P → Type 0) → P → Meaning A T → Meaning A (List T)
ReadsUntil answers ended p m = Judged (λ q x v k. answers q x.item v k) (λ _ _. ⊥) ended p m

-- Items up to and including the one with which exactly n bits are read. No item for no bits.
pub data ReadsBitsOf {A T : Type 0} (n : ℕ) (m : Meaning A T) (b : Bool) (s : Standing A) (r : Result (List T) DekuError) (u : Standing A) : Type 0 where
  NoBits : n ≡ 0 → Answer [] b s r u → ReadsBitsOf n m b s r u
  SomeBits : 0 < n → Judged {J = Unit {0}} (λ _ x v _. (v ≡ true) ↔ (count_of x.after ≡ count_of s + n)) (λ _ _. ⊥) (λ _. ⊤) tt m b s r u → ReadsBitsOf n m b s r u

-- A bit is left, or the check for one fails.
abbrev pub MoreToCome : Meaning (Option Stream) (Unit {0})
MoreToCome = Seen (λ _. false) Ending

-- Items as long as there is a bit before the next one.
abbrev pub ReadsToEnd : {T : Type 0} → Meaning (Option Stream) T → Meaning (Option Stream) (List T)
ReadsToEnd m = Judged {J = Unit {0}} (λ _ _ v _. v ≡ false) (λ t u. Ending false t (Ok true) u) (λ _. ⊤) tt (Then MoreToCome (λ _. m))

-- Exactly n items.
abbrev pub ReadsCount : {A T : Type 0} → ℕ → Meaning A T → Meaning A (List T)
ReadsCount n m = Runs (λ vs. length vs < n) (λ vs. length vs ≡ n) (Stored m)

-- A size of n bytes has more bits than a `usize` can count. It fails.
abbrev pub PastCount : {A V : Type 0} → ℕ → Standing A → Result V DekuError → Standing A → Type 0
PastCount n s r u = (2 ^ 64 ≤ 8 * n) × Refuses InvalidParam (codes "count past usize") s r u

-- Items are read up to a limit.
abbrev pub ReadsUnder : {T P : Type 0} → (P → T → Bool → P → Type 0) → (P → Type 0) → Limit T P → Meaning (Option Stream) T → Meaning (Option Stream) (List T)
ReadsUnder answers ended (Count n) m = ReadsCount n m
ReadsUnder answers ended (Until p _) m = ReadsUntil answers ended p m
ReadsUnder answers ended (ByteSize n) m = Checked (PastCount n.0) (λ b s r u. (8 * n.0 < 2 ^ 64) × ReadsBitsOf (8 * n.0) m b s r u)
ReadsUnder answers ended (BitSize n) m = ReadsBitsOf n.0 m
ReadsUnder answers ended End m = ReadsToEnd m

-- The predicate of a limit, if it has one, may be asked about every item.
abbrev pub AsksAll : {T P : Type 0} → (P → Type 0) → Limit T P → Type 0
AsksAll ok (Until p _) = ok p
AsksAll ok _ = ⊤

-- The list ends without a check for the end of the input.
abbrev pub EndsItself : {T P : Type 0} → Limit T P → Type 0
EndsItself End = ⊥
EndsItself _ = ⊤

-- m, with its values replaced by the ones that h relates to them.
pub data MappedBy {A V W : Type 0} (h : V → W → Type 0) (m : Meaning A V) (b : Bool) (s : Standing A) (r : Result W DekuError) (u : Standing A) : Type 0 where
  ValueBy : (v : V) (w : W) → m b s (Ok v) u → h v w → r ≡ Ok w → MappedBy h m b s r u
  RefusalBy : (e : DekuError) → m b s (Err e) u → r ≡ Err e → MappedBy h m b s r u
