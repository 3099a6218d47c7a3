-- Readers that fetch no byte too early, and stay in step with the bits that they count.
use Rattle.std.specs.Prelude.{ℕ, Bool, List}
use Rattle.deku_bits.specs.Devices.{KnownSource}
use Rattle.deku_bits.specs.Standings.{Standing}
use Rattle.deku_bits.specs.ReaderCalls.{IsBehind, NoneEarly}
use Rattle.deku_bits.specs.declared.reader.Reader.{Reader}

-- No byte is fetched too early, and a reader that was in step with its bytes is in step with them
-- again.
pub record PromptlyAt (known : KnownSource) (s : Standing (List Bool)) (after : KnownSource) (u : Standing (List Bool)) : Type 0 where
  pub few : NoneEarly s u
  pub step : (bytes : List ℕ) (k : ℕ) → IsBehind bytes k known.remaining s → (j : ℕ) × IsBehind bytes j after.remaining u

-- A call on a reader fetches no byte too early.
abbrev pub NoReadAhead : {R : Type 0} → (R → KnownSource) → Reader R → Reader R → Type 0
NoReadAhead known old new = PromptlyAt (known old.source) old.state (known new.source) new.state
