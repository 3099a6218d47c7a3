-- The count and the error that a reader keeps.
use Rattle.std.specs.Prelude.{◌≡◌, ⊤, ℕ, ◌-◌, ◌^◌, Option, None, Some}
use Rattle.deku_stream.specs.declared.error.Fault.{Fault}
use Rattle.deku_reader.specs.declared.reader.progress.tally.Stop.{Stop}

-- The error that is kept, if any, and how many bits were read.
pub record Tallied : Type 0 where
  pub fault : Option Fault
  pub count : ℕ

-- This many bits may still be counted, or the reader has stopped.
abbrev pub tallied : Option Stop → ℕ → Tallied
tallied None left = record { fault = None; count = 2 ^ 64 - 1 - left }
tallied (Some stop) left = record { fault = Some stop.fault; count = stop.count }

-- No bits may be counted if the reader has stopped.
abbrev pub Spent : Option Stop → ℕ → Type 0
Spent None left = ⊤
Spent (Some stop) left = left ≡ 0
