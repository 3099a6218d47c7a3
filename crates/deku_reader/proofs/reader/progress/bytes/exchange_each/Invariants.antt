use Rattle.std.proofs.Common.{◌≡◌, ◌++◌, length, take, drop, All}
use Rattle.deku_stream.specs.Bits.{facing}
use Rattle.deku_stream.specs.Streams.{flow}
use Rattle.deku_stream.proofs.Bytes.{IsByte}
use Rattle.deku_reader.proofs.reader.progress.bytes.exchange_each.Given as goal

abbrev pub invariant-loop-byte : goal.invariant-loop-byte
invariant-loop-byte l = record {
  bits : facing l.order l.initial.passing ++ flow l.order (take l.byte-index l.initial.dst) ≡ flow l.order (take l.byte-index l.dst) ++ facing l.order l.passing;
  behind : drop l.byte-index l.dst ≡ drop l.byte-index l.initial.dst;
  bytes : All IsByte (take l.byte-index l.dst);
  len : length l.passing ≡ length l.initial.passing;
}
