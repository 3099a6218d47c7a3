use Rattle.std.proofs.Common.{◌≡◌, ◌*◌, ◌++◌, length, take, drop, All}
use Rattle.deku_stream.specs.Bits.{facing}
use Rattle.deku_stream.specs.Streams.{flow}
use Rattle.deku_stream.proofs.Bytes.{IsByte}
use Rattle.deku_reader.proofs.reader.progress.bytes.exchange_eights.Given as goal

abbrev pub invariant-loop-i : goal.invariant-loop-i
invariant-loop-i l = record {
  bits : facing l.order l.initial.passing ++ flow l.order (take (8 * l.i) l.initial.dst) ≡ flow l.order (take (8 * l.i) l.dst) ++ facing l.order l.passing;
  behind : drop (8 * l.i) l.dst ≡ drop (8 * l.i) l.initial.dst;
  bytes : All IsByte (take (8 * l.i) l.dst);
  len : length l.passing ≡ length l.initial.passing;
}
