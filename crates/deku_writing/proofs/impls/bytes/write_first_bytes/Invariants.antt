use Rattle.std.proofs.Common.{◌-◌, ◌≤◌, length, take, pos, Ok}
use Rattle.deku_bits.specs.WriterCalls.{Writes}
use Rattle.deku_num.specs.Numbers.{byte}
use Rattle.deku_num.specs.NumberCalls.{WritesNumber}
use Rattle.deku_writing.specs.Composing.{WritesEach}
use Rattle.deku_writing.proofs.impls.bytes.write_first_bytes.Given as goal

abbrev pub invariant-loop-written : goal.invariant-loop-written
invariant-loop-written g l = record {
  few : l.written ≤ length l.bytes;
  writes : Writes g.W.Sink.known (WritesEach (λ x. WritesNumber byte l.fn.layout (pos x)) (take l.written l.bytes)) l.initial.writer (Ok tt) l.writer;
}

abbrev pub decreases-loop-written : goal.decreases-loop-written
decreases-loop-written g l = length l.bytes - l.written
