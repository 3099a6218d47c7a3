-- What a seek does to a count, and which seeks lead nowhere.
use Rattle.std.specs.Prelude.{◌≡◌, ◌⊎◌, ⊤, ℕ, ℤ, zero, suc, ◌+◌, ◌*◌, ◌-◌, ◌^◌, ◌<◌, ◌≤◌, min, pos, negsuc, List, length, drop, Option, None, Some, Result, Ok, Err, IfOk, IfErr, IfSome}
use Rattle.std.specs.Io.Seek.{IsSeekTarget}
use Rattle.std.specs.declared.io.SeekFrom.{SeekFrom}
use Rattle.std.specs.declared.io.SeekFrom.TheVariants.{Start, End, Current}
use Rattle.deku_device.specs.Devices.{Access, ReadOnly, Overwritten, Grows, Whole, Health, NotFewer, More, KnownSource, KnownSink, bytes_before}

-- The count after a seek that succeeds. After `Start` it is that of the bytes before the place,
-- except that for place 0 it stays. After `Current` forward it is raised by the bits that are
-- skipped. Otherwise it stays.
abbrev pub count_after : SeekFrom → ℕ → ℕ
count_after (Start zero) count = count
count_after (Start (suc n)) count = 8 * suc n
count_after (End offset) count = count
count_after (Current (pos n)) count = count + 8 * n
count_after (Current (negsuc n)) count = count

-- A seek from this place leads to it, whatever the stream holds.
abbrev pub IsHere : ℕ → SeekFrom → Type 0
IsHere at (Start n) = n ≡ at
IsHere at (End offset) = ⊥
IsHere at (Current offset) = offset ≡ pos 0

-- There is no place this far from this one.
abbrev pub NoPlace : ℕ → ℤ → Type 0
NoPlace at (pos n) = 2 ^ 64 ≤ at + n
NoPlace at (negsuc n) = at < n + 1

-- A seek leads before the first byte, or further than a `u64` can count.
abbrev pub LeadsNowhere : Whole → SeekFrom → Type 0
LeadsNowhere w (Start n) = ⊥
LeadsNowhere w (End offset) = NoPlace (length w.bytes) offset
LeadsNowhere w (Current offset) = NoPlace w.place offset

-- All bytes with the place that a seek returns, or with the old place if it fails.
abbrev pub at_place : {E : Type 0} → Whole → Result ℕ E → Whole
at_place w (Ok n) = record w { place = n }
at_place w (Err e) = w

-- Known bytes stay, at the place that the seek returns.
abbrev pub Lands : {E : Type 0} → Option Whole → Option Whole → Result ℕ E → Type 0
Lands None new r = ⊤
Lands (Some w) new r = new ≡ Some (at_place w r)

-- A seek: no failure is forgotten, and none is added if it succeeds. The references stay, and so do
-- all bytes, at the place that it returns, which is its target.
pub record Seeks {E : Type 0} (old new : Health) (to : SeekFrom) (r : Result ℕ E) : Type 0 where
  pub failures : NotFewer old.failures new.failures
  pub none : IfOk r (λ n. new.failures ≡ old.failures)
  pub lenders : new.lenders ≡ old.lenders
  pub whole : Lands old.whole new.whole r
  pub target : IfSome old.whole (λ w. IfOk r (IsSeekTarget w.place (Some w.bytes) to))

-- If all bytes are known, a seek fails only if it leads nowhere, or if a call fails.
abbrev pub RefusedSeek : {E : Type 0} → Health → Health → SeekFrom → Result ℕ E → Type 0
RefusedSeek old new to r = IfSome old.whole (λ w. IfErr r (λ e. LeadsNowhere w to ⊎ More old.failures new.failures))

-- The result of a seek to n, if only its success is known.
abbrev pub toward : {E : Type 0} → ℕ → Result (Unit {0}) E → Result ℕ E
toward n (Ok u) = Ok n
toward n (Err e) = Err e

-- If all bytes are known, those from the place on are the next.
abbrev pub ComesFrom : {E : Type 0} → Option Whole → Result ℕ E → KnownSource → Type 0
ComesFrom w r known = IfSome w (λ w. IfOk r (λ n. known.remaining ≡ Some (drop n w.bytes)))

-- The bytes after a place, as the room. For a device that grows it is not known.
abbrev pub room_at : Access → ℕ → List ℕ → Option (List ℕ)
room_at Grows at all = None
room_at Overwritten at all = Some (drop at all)
room_at ReadOnly at all = Some (drop at all)

-- If all bytes are known, those before the place are taken, and those after it are the room.
abbrev pub StandsAt : {E : Type 0} → Option Whole → Result ℕ E → KnownSink → Type 0
StandsAt w r known = IfSome w (λ w. IfOk r (λ n. (known.taken ≡ bytes_before n w.bytes) × (known.room ≡ room_at w.access n w.bytes)))

-- A place, n bytes further on, as far as a `u64` can count.
abbrev pub place_on : ℕ → ℕ → ℕ
place_on at n = min (at + n) (2 ^ 64 - 1)
