use Rattle.std.proofs.Common.{◌-◌, ◌^◌}
use Rattle.deku_bits.specs.Standings.{count_of, reader_state}
use Rattle.deku.specs.Texts.{NoZeros, ReadsByte}
use Rattle.deku_reading.specs.Early.{NoReadAhead}
use Rattle.deku_reading.proofs.Runs.{SoFar}
use Rattle.deku.proofs.impls.cstring.read_to_zero.Given as goal

abbrev pub invariant-loop-bytes : goal.invariant-loop-bytes
invariant-loop-bytes g l = record {
  far : NoZeros l.bytes.items × SoFar ReadsByte l.bytes.items
      (reader_state (g.R.Source.known l.initial.reader.source).remaining l.initial.reader.state) (g.R.Source.known l.initial.reader.source).health
      (reader_state (g.R.Source.known l.reader.source).remaining l.reader.state) (g.R.Source.known l.reader.source).health;
  early : NoReadAhead g.R.Source.known l.initial.reader l.reader;
}

abbrev pub decreases-loop-bytes : goal.decreases-loop-bytes
decreases-loop-bytes g l = 2 ^ 64 - count_of l.reader.state
