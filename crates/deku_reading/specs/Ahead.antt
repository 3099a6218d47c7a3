-- Items that are read one after the other, as many as are in memory.
use Rattle.std.specs.Prelude.{◌≡◌, ℕ, Bool, List, ◌++◌, length, Option}
use Rattle.deku_bits.specs.Devices.{KnownSource, DeviceKept}
use Rattle.deku_bits.specs.Streams.{Stream}
use Rattle.deku_bits.specs.Standings.{Standing, reader_state}
use Rattle.deku_bits.specs.Outcomes.{Meaning}
use Rattle.deku_bits.specs.declared.reader.Reader.{Reader}
use Rattle.deku_reading.specs.Lists.{AnswersEach}

-- n items are read one after the other, none of them fails, and they are appended to the list xs.
pub record Appended {T : Type 0} (m : Meaning (Option Stream) T) (n : ℕ) (xs ys : List T) (known : KnownSource) (s : Standing (List Bool)) (after : KnownSource) (u : Standing (List Bool)) : Type 0 where
  pub items : List T
  pub count : length items ≡ n
  pub joined : ys ≡ xs ++ items
  pub each : AnswersEach m items (reader_state known.remaining s) (reader_state after.remaining u)
  pub kept : DeviceKept known.health after.health

-- The same, by a call on a reader.
abbrev pub ReadsOnto : {R T : Type 0} → (R → KnownSource) → Meaning (Option Stream) T → ℕ → List T → List T → Reader R → Reader R → Type 0
ReadsOnto known m n xs ys old new = Appended m n xs ys (known old.source) old.state (known new.source) new.state
