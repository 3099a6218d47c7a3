use Rattle.std.proofs.Common.{◌-◌, ◌≤◌}
use Rattle.deku_num.specs.Numbers.{byte}
use Rattle.deku_num.specs.NumberCalls.{ReadsUnsigned}
use Rattle.deku_reading.specs.Ahead.{ReadsOnto}
use Rattle.deku_reading.specs.Early.{NoReadAhead}
use Rattle.deku_reading.proofs.impls.bytes.read_bytes_onto.Given as goal

abbrev pub invariant-loop-left : goal.invariant-loop-left
invariant-loop-left g l = record {
  few : l.left ≤ l.most;
  reads : ReadsOnto g.R.Source.known (ReadsUnsigned byte l.fn.layout) (l.most - l.left) l.initial.bytes.items l.bytes.items l.initial.reader l.reader;
  early : NoReadAhead g.R.Source.known l.initial.reader l.reader;
}

abbrev pub decreases-loop-left : goal.decreases-loop-left
decreases-loop-left g l = l.left
