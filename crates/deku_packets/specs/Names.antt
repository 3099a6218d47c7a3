-- Names of the domain name system in a message, through their pointers.
use Rattle.std.specs.Prelude.{◌≡◌, ℕ, suc, ◌+◌, ◌-◌, ◌*◌, ◌<◌, ◌≤◌, List, length, sum_by, Some, slice_get, codes, Result, Ok, Err}
use Rattle.deku_messages.specs.declared.name.Label.{Label as Part}
use Rattle.deku_packets.specs.declared.name.Astray.{Astray}
use Rattle.deku_packets.specs.declared.name.Step.{Step}
use Rattle.deku_packets.specs.declared.name.Step.TheVariants.{Label, Pointer, End}

-- A label of this many bytes is at a place.
pub record IsLabel (message : List ℕ) (at count : ℕ) : Type 0 where
  pub says : slice_get message at ≡ Some count
  pub some : 0 < count
  pub few : count < 64
  pub there : at + count < length message

-- A pointer to a place is at a place.
pub record IsPointer (message : List ℕ) (at to : ℕ) : Type 0 where
  pub high : ℕ
  pub low : ℕ
  pub first : slice_get message at ≡ Some high
  pub second : slice_get message (at + 1) ≡ Some low
  pub marked : 192 ≤ high
  pub is : to ≡ (high - 192) * 256 + low

-- At a place there is nothing, the first byte of a pointer alone, or a label that ends after the
-- message.
pub data IsPast (message : List ℕ) (at : ℕ) : Type 0 where
  Nothing : length message ≤ at → IsPast message at
  Half : (high : ℕ) → slice_get message at ≡ Some high → 192 ≤ high → length message ≤ at + 1 → IsPast message at
  Cut : (count : ℕ) → slice_get message at ≡ Some count → 0 < count → count < 64 → length message ≤ at + count → IsPast message at

-- A name goes astray at this place, for this reason.
abbrev pub Says : ℕ → List ℕ → Astray → Type 0
Says at why e = (e.at ≡ at) × (e.why.now ≡ why)

-- What goes wrong at a place: a pointer does not lead to a place before `start`, a byte begins no
-- label and no pointer, or the message ends.
pub data IsWrong (message : List ℕ) (start at : ℕ) (e : Astray) : Type 0 where
  Onward : (to : ℕ) → IsPointer message at to → start ≤ to → Says at (codes "pointer that does not lead back") e → IsWrong message start at e
  Reserved : (byte : ℕ) → slice_get message at ≡ Some byte → 64 ≤ byte → byte < 192 → Says at (codes "reserved kind of label") e → IsWrong message start at e
  Past : IsPast message at → Says at (codes "name past the message") e → IsWrong message start at e

-- What following a name comes to from a place on, if it may have so many more labels and pointers.
-- The labels that led there began at `start`.
pub data Follows (message : List ℕ) : ℕ → ℕ → ℕ → Result (Unit {0}) Astray → Type 0 where
  TooLong : (start at : ℕ) (e : Astray) → Says at (codes "name too long") e → Follows message start at 0 (Err e)
  Ends : (start at left : ℕ) → slice_get message at ≡ Some 0 → Follows message start at (suc left) (Ok tt)
  AfterLabel : (start at count left : ℕ) (r : Result (Unit {0}) Astray) → IsLabel message at count → Follows message start (at + count + 1) left r → Follows message start at (suc left) r
  ByPointer : (start at to left : ℕ) (r : Result (Unit {0}) Astray) → IsPointer message at to → to < start → Follows message to to left r → Follows message start at (suc left) r
  Wrong : (start at left : ℕ) (e : Astray) → IsWrong message start at e → Follows message start at (suc left) (Err e)

-- What the next step is.
abbrev pub IsStep : List ℕ → ℕ → ℕ → Step → Type 0
IsStep message start at (Label label next) = (count : ℕ) × IsLabel message at count × (next ≡ at + count + 1)
IsStep message start at (Pointer to) = IsPointer message at to × (to < start)
IsStep message start at End = slice_get message at ≡ Some 0

-- How many bytes a name of these labels has in a message.
abbrev pub size_of : List Part → ℕ
size_of parts = sum_by (λ part. length part.bytes.items + 1) parts
