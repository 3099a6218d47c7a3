-- What the calls of a writer do.
use Rattle.std.specs.Prelude.{◌≡◌, ◌⊎◌, ℕ, ◌+◌, ◌*◌, ◌<◌, Bool, List, length, Result, Ok, Err}
use Rattle.std.specs.Io.KnownBytes.{Appends}
use Rattle.std.specs.declared.io.ErrorKind.{ErrorKind}
use Rattle.deku_stream.specs.declared.ctx.Order.{Order}
use Rattle.deku_stream.specs.declared.ctx.Order.TheVariants.{Msb0}
use Rattle.deku_stream.specs.declared.error.DekuError.{DekuError}
use Rattle.deku_stream.specs.declared.error.DekuError.TheVariants.{Io}
use Rattle.deku_writer.specs.declared.writer.Writer.{Writer}
use Rattle.deku_stream.specs.Bits.{word_of, shown}
use Rattle.deku_stream.specs.Writers.{Pending, Nothing, Held, Written, append, finalized}
use Rattle.deku_device.specs.Devices.{KnownSink, Shrinks, LacksRoom, TakesSome, ShrinksSome}
use Rattle.deku_stream.specs.Standings.{Standing, Going, Stopped, Untouched, Output, count_of, writer_state}
use Rattle.deku_stream.specs.Outcomes.{Meaning, Outcome, UnlessStopped, CountsBits}

-- A call on a sink and on the state that a writer keeps besides it.
abbrev pub WritesAt : Meaning Output (Unit {0}) → KnownSink → Standing Pending → Result (Unit {0}) DekuError → KnownSink → Standing Pending → Type 0
WritesAt m known s r told_after u = Outcome m (writer_state known s) known.health r (writer_state told_after u) told_after.health

-- A call on a writer.
abbrev pub Writes : {W : Type 0} → (W → KnownSink) → Meaning Output (Unit {0}) → Writer W → Result (Unit {0}) DekuError → Writer W → Type 0
Writes known m old r new = WritesAt m (known old.sink) old.state r (known new.sink) new.state

-- The sink took the bytes, and the bits are pending.
pub record Took (w : Written) (old new : Output) : Type 0 where
  pub taken : Appends old.taken new.taken w.bytes
  pub room : Shrinks old.room new.room (length w.bytes)
  pub pending : new.pending ≡ w.pending

-- The sink took a beginning of the bytes, and nothing is pending.
pub record TookSome (bytes : List ℕ) (old new : Output) : Type 0 where
  pub taken : TakesSome old.taken new.taken bytes
  pub room : ShrinksSome old.room new.room
  pub pending : new.pending ≡ Nothing

-- Bytes are given out. The sink takes them, each counts eight bits, and the bits are pending. Or
-- the sink has no room, which stops the writer, and the count stays.
abbrev pub GivesOut : Written → Output → ℕ → Result (Unit {0}) DekuError → Standing Output → Type 0
GivesOut w out c r u = ((after : Output) × Took w out after × (r ≡ Ok tt) × (u ≡ Going after (c + 8 * length w.bytes)))
    ⊎ ((kind : ErrorKind) × (0 < length w.bytes) × LacksRoom out.room (length w.bytes) kind × (r ≡ Err (Io kind))
    × (left : Output) × TookSome w.bytes out left × (u ≡ Stopped left (Io kind) c))

-- What writing makes of the pending bits is given out. If the count has no room for the bytes, it
-- fails and nothing changes. If the device fails, the sink has taken a beginning of the bytes.
abbrev pub Emits : (Pending → Written) → Meaning Output (Unit {0})
Emits write = UnlessStopped (λ out. TookSome (write out.pending).bytes out) (λ out. CountsBits (8 * length (write out.pending).bytes) (GivesOut (write out.pending)) out)

-- Bits are written in an order.
abbrev pub WritesBits : Order → List Bool → Meaning Output (Unit {0})
WritesBits o bits = Emits (append o bits)

-- A word is written in an order: the list of n bits that has this word, as a read shows it.
abbrev pub WritesWord : Order → ℕ → ℕ → Meaning Output (Unit {0})
WritesWord o n word b s r u = (bits : List Bool) × (length bits ≡ n) × (word_of o bits ≡ word) × WritesBits o (shown o bits) b s r u

-- The pending bits are filled with zeros to a byte.
abbrev pub Finalizes : Meaning Output (Unit {0})
Finalizes = Emits finalized

-- What is pending. Nothing is pending if the writer has stopped.
abbrev pub pending_of : Standing Pending → Pending
pending_of (Going pending c) = pending
pending_of (Stopped pending e c) = Nothing

-- The order of pending bits. It is `Msb0` if nothing is pending.
abbrev pub order_of : Pending → Order
order_of Nothing = Msb0
order_of (Held o s) = o

-- ---- What a caller sees of a writer, without its fields.
-- The sink.
abbrev pub sink_of : {W : Type 0} → Writer W → W
sink_of w = w.sink

-- How many bits the sink was given.
abbrev pub written_count : {W : Type 0} → Writer W → ℕ
written_count w = count_of w.state

-- The pending bits.
abbrev pub pending_state : {W : Type 0} → Writer W → Pending
pending_state w = pending_of w.state

-- The sink was given this many bits, and none is pending.
abbrev pub WritesOn : {W : Type 0} → Writer W → ℕ → Type 0
WritesOn w count = w.state ≡ Going Nothing count

-- It has stopped with this error, after this many bits.
abbrev pub StopsWriting : {W : Type 0} → Writer W → DekuError → ℕ → Type 0
StopsWriting w fault count = w.state ≡ Stopped Nothing fault count

-- If the writer had stopped, the sink is unchanged.
abbrev pub KeepsSinkStopped : {W : Type 0} → Writer W → Writer W → Type 0
KeepsSinkStopped old new = Untouched old.state old.sink new.sink
