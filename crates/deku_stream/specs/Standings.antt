-- The states of a reader or a writer.
use Rattle.std.specs.Prelude.{◌≡◌, ⊤, ℕ, Bool, List, Option, None, Some}
use Rattle.deku_stream.specs.declared.error.DekuError.{DekuError}
use Rattle.deku_stream.specs.Streams.{Stream, normal}
use Rattle.deku_stream.specs.Writers.{Pending}
use Rattle.deku_device.specs.Devices.{KnownSink}

-- It continues with an A, or it has stopped with an A, by an error that it keeps. Both know how
-- many bits were moved.
pub data Standing (A : Type 0) : Type 0 where
  Going : A → ℕ → Standing A
  Stopped : A → DekuError → ℕ → Standing A

-- How many bits were moved.
abbrev pub count_of : {A : Type 0} → Standing A → ℕ
count_of (Going a count) = count
count_of (Stopped a fault count) = count

-- The stream of a window and the next bytes, if these are known, in normal form.
abbrev pub stream_of : List Bool → Option (List ℕ) → Option Stream
stream_of window None = None
stream_of window (Some bytes) = Some (normal (record { window = window; bytes = bytes }))

-- The state of a reader: its window, with the known bytes of its source.
abbrev pub reader_state : Option (List ℕ) → Standing (List Bool) → Standing (Option Stream)
reader_state remaining (Going window count) = Going (stream_of window remaining) count
reader_state remaining (Stopped window fault count) = Stopped (stream_of window remaining) fault count

-- What a writer continues with, or has stopped with: what its sink took and the bytes in its room,
-- if these are known, and the pending bits.
pub record Output : Type 0 where
  pub taken : Option (List ℕ)
  pub room : Option (List ℕ)
  pub pending : Pending

-- Pending bits, with what is known of a sink.
abbrev pub output_of : KnownSink → Pending → Output
output_of known pending = record { taken = known.taken; room = known.room; pending = pending }

-- The state of a writer: its pending bits, with what is known of its sink.
abbrev pub writer_state : KnownSink → Standing Pending → Standing Output
writer_state known (Going pending count) = Going (output_of known pending) count
writer_state known (Stopped pending fault count) = Stopped (output_of known pending) fault count

-- If it has stopped, its device stays as it was.
abbrev pub Untouched : {A D : Type 0} → Standing A → D → D → Type 0
Untouched (Going a count) old new = ⊤
Untouched (Stopped a fault count) old new = new ≡ old
