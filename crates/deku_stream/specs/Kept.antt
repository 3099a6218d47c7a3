-- What is kept besides a device: a standing, made of what is held, a kept fault and a count; and
-- which calls it allows.
use Rattle.std.specs.Prelude.{◌≡◌, ◌⊎◌, ℕ, ◌+◌, ◌<◌, ◌≤◌, ◌^◌, List, Option, None, Some, Result, Ok, Err, codes}
use Rattle.std.specs.Borrow.{Bor}
use Rattle.deku_stream.specs.declared.error.DekuError.{DekuError}
use Rattle.deku_stream.specs.declared.error.DekuError.TheVariants.{InvalidParam}
use Rattle.deku_stream.specs.declared.error.Fault.{Fault}
use Rattle.deku_stream.specs.Faults.{error_of}
use Rattle.deku_stream.specs.Standings.{Standing, Going, Stopped}

-- The standing that continues with an A; or, if a fault is kept, the one that has stopped with it.
abbrev pub standing_of : {A : Type 0} → A → Option Fault → ℕ → Standing A
standing_of a None count = Going a count
standing_of a (Some fault) count = Stopped a (error_of fault) count

-- Whether n more bits may be counted. Otherwise the result is the kept error, or that the count has
-- no room for them.
abbrev pub Admits : {A : Type 0} → ℕ → Standing A → Result (Unit {0}) DekuError → Type 0
Admits n (Stopped a fault count) r = r ≡ Err fault
Admits n (Going a count) r = ((2 ^ 64 ≤ count + n) × ((words : Bor (List ℕ)) × (words.now ≡ codes "count past usize") × (r ≡ Err (InvalidParam words)))) ⊎ ((count + n < 2 ^ 64) × (r ≡ Ok tt))
