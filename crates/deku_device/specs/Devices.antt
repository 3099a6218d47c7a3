-- What is known of sources and sinks, and what a transfer does to it.
use Rattle.std.specs.Prelude.{◌≡◌, ◌⊎◌, ℕ, ◌-◌, ◌<◌, ◌≤◌, List, [], ◌++◌, length, drop, take, replicate, Option, None, Some, ⊤, nat_le, if◌then◌else◌}
use Rattle.std.specs.Borrow.{GName}
use Rattle.std.specs.Io.KnownBytes.{Appends}
use Rattle.std.specs.declared.io.ErrorKind.{ErrorKind}
use Rattle.std.specs.declared.io.ErrorKind.TheVariants.{WriteZero, OutOfMemory}

-- How transfers may change the bytes of a device: none of them; those that are there; or those and
-- others after the end.
pub data Access : Type 0 where
  ReadOnly : Access
  Overwritten : Access
  Grows : Access

-- All bytes of a device, its place among them, and how transfers may change them.
pub record Whole : Type 0 where
  pub place : ℕ
  pub bytes : List ℕ
  pub access : Access

-- What every call keeps: how many calls failed, if that is known, the names of the references to
-- the device, and all of its bytes, if they are known.
pub record Health : Type 0 where
  pub failures : Option ℕ
  pub lenders : List GName
  pub whole : Option Whole

-- What is known of a source: the next bytes, if they are known.
pub record KnownSource : Type 0 where
  pub remaining : Option (List ℕ)
  pub health : Health

-- What is known of a sink: the bytes that it took, and the bytes in the room that it has left, if
-- they are known.
pub record KnownSink : Type 0 where
  pub taken : Option (List ℕ)
  pub room : Option (List ℕ)
  pub health : Health

-- A known count stays known and does not fall.
abbrev pub NotFewer : Option ℕ → Option ℕ → Type 0
NotFewer None new = ⊤
NotFewer (Some m) None = ⊥
NotFewer (Some m) (Some n) = m ≤ n

-- A known count stays known and rises.
abbrev pub More : Option ℕ → Option ℕ → Type 0
More None new = ⊤
More (Some m) None = ⊥
More (Some m) (Some n) = m < n

-- What a transfer may make of all bytes: the same, as many, or any.
abbrev pub Changes : Access → List ℕ → List ℕ → Type 0
Changes ReadOnly old new = new ≡ old
Changes Overwritten old new = length new ≡ length old
Changes Grows old new = ⊤

-- A transfer continues from its place. The bytes before it stay, and so do those after the new
-- place, and the size changes only as allowed.
pub record Onward (old new : Whole) : Type 0 where
  pub access : new.access ≡ old.access
  pub place : old.place ≤ new.place
  pub front : (rest : List ℕ) × (new.bytes ≡ take old.place old.bytes ++ rest)
  pub back : drop new.place new.bytes ≡ drop new.place old.bytes
  pub size : Changes old.access old.bytes new.bytes

-- Known bytes stay known, and a transfer continues from its place.
abbrev pub Transferred : Option Whole → Option Whole → Type 0
Transferred None new = ⊤
Transferred (Some w) None = ⊥
Transferred (Some w) (Some v) = Onward w v

-- Nothing moved, or a transfer continued.
abbrev pub GoesOnward : Option Whole → Option Whole → Type 0
GoesOnward old new = (new ≡ old) ⊎ Transferred old new

-- No failure is forgotten. The references stay, and so do the bytes other than those transferred.
pub record DeviceKept (old new : Health) : Type 0 where
  pub failures : NotFewer old.failures new.failures
  pub lenders : new.lenders ≡ old.lenders
  pub whole : GoesOnward old.whole new.whole

-- A call failed. The references stay, and so do the bytes other than those transferred.
pub record DeviceFailed (old new : Health) : Type 0 where
  pub failures : More old.failures new.failures
  pub lenders : new.lenders ≡ old.lenders
  pub whole : GoesOnward old.whole new.whole

-- A device of which nothing is known.
abbrev pub unknown : Health
unknown = record { failures = None; lenders = []; whole = None }

-- ---- sources
-- A source of which nothing is known.
abbrev pub unknown_source : KnownSource
unknown_source = record { remaining = None; health = unknown }

-- Known bytes are fewer than n.
abbrev pub FewerThan : ℕ → Option (List ℕ) → Type 0
FewerThan n None = ⊤
FewerThan n (Some bs) = length bs < n

-- Known bytes lose the first n of them, or all if there are fewer.
abbrev pub Passes : ℕ → Option (List ℕ) → Option (List ℕ) → Type 0
Passes n None new = ⊤
Passes n (Some bs) None = ⊥
Passes n (Some bs) (Some cs) = cs ≡ drop n bs

-- Known bytes are at least n, and lose the first n of them.
abbrev pub Loses : ℕ → Option (List ℕ) → Option (List ℕ) → Type 0
Loses n None new = ⊤
Loses n (Some bs) None = ⊥
Loses n (Some bs) (Some cs) = (n ≤ length bs) × (cs ≡ drop n bs)

-- Known bytes, followed by zeros, begin with these.
abbrev pub BeginsThenZeros : List ℕ → Option (List ℕ) → Type 0
BeginsThenZeros bytes None = ⊤
BeginsThenZeros bytes (Some remaining) = bytes ≡ take (length bytes) (remaining ++ replicate (length bytes) 0)

-- If as many bytes are left as are taken, those taken are the next.
abbrev pub TryTakeLaw : Type 0
TryTakeLaw = (bytes remaining : List ℕ) → length bytes ≤ length remaining → BeginsThenZeros bytes (Some remaining) → take (length bytes) remaining ≡ bytes

-- If it was known that no byte is left, it is known again.
abbrev pub StaysEmpty : Option (List ℕ) → Option (List ℕ) → Type 0
StaysEmpty None new = ⊤
StaysEmpty (Some bs) new = length bs ≡ 0 → new ≡ Some bs

-- ---- sinks
-- A sink of which nothing is known.
abbrev pub unknown_sink : KnownSink
unknown_sink = record { taken = None; room = None; health = unknown }

-- The bytes before a place, if the place is not past the end.
abbrev pub bytes_before : ℕ → List ℕ → Option (List ℕ)
bytes_before place bytes = if nat_le place (length bytes) then Some (take place bytes) else None

-- A known room loses its first n bytes, and an unknown one stays unknown.
abbrev pub Shrinks : Option (List ℕ) → Option (List ℕ) → ℕ → Type 0
Shrinks None None n = ⊤
Shrinks None (Some s) n = ⊥
Shrinks (Some r) None n = ⊥
Shrinks (Some r) (Some s) n = (n ≤ length r) × (s ≡ drop n r)

-- The kind of the error, if the known room is too small for n bytes, or if no room is known and
-- there is no memory.
abbrev pub LacksRoom : Option (List ℕ) → ℕ → ErrorKind → Type 0
LacksRoom None n kind = kind ≡ OutOfMemory
LacksRoom (Some r) n kind = (kind ≡ WriteZero) × (length r < n)

-- The sink took these bytes.
pub record Gave (old new : KnownSink) (bytes : List ℕ) : Type 0 where
  pub taken : Appends old.taken new.taken bytes
  pub room : Shrinks old.room new.room (length bytes)
  pub health : DeviceKept old.health new.health

-- Known taken bytes are the old ones and a beginning of these.
abbrev pub TakesSome : Option (List ℕ) → Option (List ℕ) → List ℕ → Type 0
TakesSome None new bytes = ⊤
TakesSome (Some taken) None bytes = ⊥
TakesSome (Some taken) (Some all) bytes = all ≡ taken ++ take (length all - length taken) bytes

-- A known room is an end of the old one, and an unknown one stays unknown.
abbrev pub ShrinksSome : Option (List ℕ) → Option (List ℕ) → Type 0
ShrinksSome None None = ⊤
ShrinksSome None (Some s) = ⊥
ShrinksSome (Some r) None = ⊥
ShrinksSome (Some r) (Some s) = s ≡ drop (length r - length s) r

-- The sink took only a beginning of the bytes: a call failed, or it does not have the room.
pub record Declined (old new : KnownSink) (bytes : List ℕ) (kind : ErrorKind) : Type 0 where
  pub cause : DeviceFailed old.health new.health ⊎ LacksRoom old.room (length bytes) kind
  pub taken : TakesSome old.taken new.taken bytes
  pub room : ShrinksSome old.room new.room
  pub health : DeviceKept old.health new.health
