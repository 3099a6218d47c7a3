-- Reading from a place that is sought first.
use Rattle.std.specs.Prelude.{◌≡◌, ℕ, [], Option, Result, Ok, Err}
use Rattle.std.specs.Global.{Vec}
use Rattle.std.specs.declared.io.Error.{Error}
use Rattle.std.specs.IoError.{error_kind}
use Rattle.std.specs.declared.io.SeekFrom.TheVariants.{Start}
use Rattle.deku_bits.specs.declared.error.DekuError.{DekuError}
use Rattle.deku_bits.specs.declared.error.DekuError.TheVariants.{Io}
use Rattle.deku_bits.specs.declared.reader.Reader.{Reader}
use Rattle.deku_bits.specs.Devices.{KnownSource}
use Rattle.deku_bits.specs.Seeking.{count_after, Seeks, RefusedSeek, ComesFrom}
use Rattle.deku_bits.specs.Streams.{Stream}
use Rattle.deku_bits.specs.Standings.{Going, Stopped, count_of}
use Rattle.deku_bits.specs.Outcomes.{Meaning}
use Rattle.deku_bits.specs.ReaderCalls.{Reads}
use Rattle.deku.specs.Limits.{ReadsCount, MappedBy}
use Rattle.deku_num.specs.declared.ctx.Endian.{Endian}
use Rattle.deku_elf.specs.declared.Elf.{Elf}
use Rattle.deku_elf.specs.Elf.{endian_of, fields_of, segments_at}

-- A place is sought, and m is read from there: if all bytes are known, those from the place on are
-- the next. Or the source fails to seek, which stops the reader; if all bytes are known, only in a
-- call that fails. The seek itself forgets no failure, adds none if it succeeds, and leaves all
-- bytes.
pub data ReadsFrom {R V : Type 0} (known : R → KnownSource) (place : ℕ) (m : Meaning (Option Stream) V) (old : Reader R) (r : Result V DekuError) (new : Reader R) : Type 0 where
  Sought : (at : Reader R) (n : ℕ) → at.state ≡ Going [] (count_after (Start place) (count_of old.state))
      → Seeks {E = Error} (known old.source).health (known at.source).health (Start place) (Ok n) → ComesFrom {E = Error} (known old.source).health.whole (Ok n) (known at.source)
      → Reads known m at r new → ReadsFrom known place m old r new
  NotSought : (error : Error) → r ≡ Err (Io (error_kind error)) → new.state ≡ Stopped [] (Io (error_kind error)) (count_of old.state)
      → Seeks (known old.source).health (known new.source).health (Start place) (Err error) → RefusedSeek (known old.source).health (known new.source).health (Start place) (Err error)
      → ReadsFrom known place m old r new

-- As many program headers as the file's header says are read into a vector, each as m reads one
-- under the endian that the file names.
abbrev pub ReadsSegments : {V : Type 0} → Elf → (Endian → Meaning (Option Stream) V) → Meaning (Option Stream) (Vec V)
ReadsSegments elf m = MappedBy (λ xs v. v.items ≡ xs) (ReadsCount (fields_of elf).segment_count (m (endian_of elf)))

-- How many bits are before the place of the program headers.
abbrev pub bits_before : {R : Type 0} → Elf → Reader R → ℕ
bits_before elf reader = count_after (Start (segments_at elf)) (count_of reader.state)
