use Rattle.std.proofs.Common.{◌≡◌, ◌+◌, length}
use Rattle.deku_bits.specs.Standings.{reader_state}
use Rattle.deku_reading.specs.Early.{NoReadAhead}
use Rattle.deku_reading.specs.Lists.{Stored}
use Rattle.deku_reading.proofs.Runs.{SoFar}
use Rattle.deku_reading.proofs.impls.counted.read_counted.Given as goal

abbrev pub invariant-loop-left : goal.invariant-loop-left
invariant-loop-left g l = record {
  long : length l.items.items + l.left ≡ l.count;
  far : SoFar (Stored (g.T.DekuReader.meaning l.ctx)) l.items.items
      (reader_state (g.R.Source.known l.initial.reader.source).remaining l.initial.reader.state) (g.R.Source.known l.initial.reader.source).health
      (reader_state (g.R.Source.known l.reader.source).remaining l.reader.state) (g.R.Source.known l.reader.source).health;
  early : g.T.DekuReader.no_read_ahead l.ctx → NoReadAhead g.R.Source.known l.initial.reader l.reader;
}

abbrev pub decreases-loop-left : goal.decreases-loop-left
decreases-loop-left g l = l.left
