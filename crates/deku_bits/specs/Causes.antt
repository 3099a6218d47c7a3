-- The causes of `Io` errors.
use Rattle.std.specs.Prelude.{◌≡◌, ◌⊎◌, ℕ, Bool, false, List, Result, Err}
use Rattle.std.specs.declared.io.ErrorKind.{ErrorKind}
use Rattle.std.specs.declared.io.ErrorKind.TheVariants.{OutOfMemory, WriteZero}
use Rattle.deku_stream.specs.declared.ctx.Order.{Order}
use Rattle.deku_stream.specs.declared.error.DekuError.TheVariants.{Io}
use Rattle.deku_stream.specs.declared.error.DekuError.{DekuError}
use Rattle.deku_device.specs.Devices.{Health, DeviceFailed}
use Rattle.deku_stream.specs.Standings.{Standing, Going, Stopped}
use Rattle.deku_stream.specs.Outcomes.{Meaning}
use Rattle.deku_reader.specs.ReaderCalls.{TakesBits, ReadsBits, ReadsVec, ReadsBytes, ReadsByteVec, ReadsWord, Ending, Skips}
use Rattle.deku_writer.specs.WriterCalls.{WritesBits, WritesWord, Finalizes}

-- It has stopped with an error of this kind.
abbrev pub KeepsIo : {A : Type 0} → ErrorKind → Standing A → Type 0
KeepsIo k (Going a c) = ⊥
KeepsIo k (Stopped a e c) = e ≡ Io k

-- No kind.
abbrev pub NoKind : ErrorKind → Type 0
NoKind k = ⊥

-- Out of memory.
abbrev pub WantsMemory : ErrorKind → Type 0
WantsMemory k = k ≡ OutOfMemory

-- Out of memory, or out of room.
abbrev pub WantsPlace : ErrorKind → Type 0
WantsPlace k = (k ≡ OutOfMemory) ⊎ (k ≡ WriteZero)

-- If no device fails, an `Io` error that m returns or leaves is of m's own kinds, or was kept
-- before.
abbrev pub OwnFaults : {A V : Type 0} → (ErrorKind → Type 0) → Meaning A V → Type 0
OwnFaults {A} {V} own m = (s : Standing A) (r : Result V DekuError) (u : Standing A) (k : ErrorKind)
    → m false s r u → (r ≡ Err (Io k)) ⊎ KeepsIo k u → own k ⊎ KeepsIo k s

-- An `Io` error is returned only if the count of failures rose, if it is known, or is of the call's
-- own kinds, or was kept before.
abbrev pub Caused : {A V : Type 0} → (ErrorKind → Type 0) → Standing A → Health → Result V DekuError → Health → Type 0
Caused own s f r g = (k : ErrorKind) → r ≡ Err (Io k) → DeviceFailed f g ⊎ own k ⊎ KeepsIo k s

-- The calls of a reader have no `Io` error of their own, except that those that take memory may be
-- out of it. Those of a writer have none except out of memory and out of room.
abbrev pub CauseLaw : Type 0
CauseLaw = ((o : Order) (n : ℕ) → OwnFaults NoKind (TakesBits o n) × OwnFaults NoKind (ReadsBits o n) × OwnFaults WantsMemory (ReadsVec o n)
    × OwnFaults NoKind (ReadsBytes o n) × OwnFaults NoKind (ReadsWord o n) × OwnFaults NoKind (Skips o n) × OwnFaults WantsMemory (ReadsByteVec o n))
    × OwnFaults NoKind Ending
    × ((o : Order) (bits : List Bool) → OwnFaults WantsPlace (WritesBits o bits))
    × ((o : Order) (n word : ℕ) → OwnFaults WantsPlace (WritesWord o n word))
    × OwnFaults WantsPlace Finalizes
