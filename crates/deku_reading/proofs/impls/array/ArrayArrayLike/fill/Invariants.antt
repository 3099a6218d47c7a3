use Rattle.deku_bits.specs.Standings.{reader_state}
use Rattle.deku_reading.specs.Early.{NoReadAhead}
use Rattle.deku_reading.proofs.Slots.{FilledTo}
use Rattle.deku_reading.proofs.impls.array.ArrayArrayLike.fill.Given as goal

abbrev pub invariant-loop-place : goal.invariant-loop-place
invariant-loop-place g l = record {
  far : FilledTo (g.T.DekuReader.meaning l.ctx) g.row.N l.place l.slots
      (reader_state (g.R.Source.known l.initial.reader.source).remaining l.initial.reader.state) (g.R.Source.known l.initial.reader.source).health
      (reader_state (g.R.Source.known l.reader.source).remaining l.reader.state) (g.R.Source.known l.reader.source).health;
  early : g.T.DekuReader.no_read_ahead l.ctx → NoReadAhead g.R.Source.known l.initial.reader l.reader;
}
