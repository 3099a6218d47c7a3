use Rattle.deku_bits.specs.Standings.{reader_state}
use Rattle.deku_reading.specs.Early.{NoReadAhead}
use Rattle.deku_reading.proofs.Counting.{Counted}
use Rattle.deku_reading.proofs.impls.gather.gather_count.Given as goal

abbrev pub invariant-loop : goal.invariant-loop
invariant-loop g l = record {
  far : Counted g.B.Gather.puts (g.T.DekuReader.meaning l.ctx) l.counter l.initial.into l.into
      (reader_state (g.R.Source.known l.initial.reader.source).remaining l.initial.reader.state) (g.R.Source.known l.initial.reader.source).health
      (reader_state (g.R.Source.known l.reader.source).remaining l.reader.state) (g.R.Source.known l.reader.source).health;
  early : g.T.DekuReader.no_read_ahead l.ctx → NoReadAhead g.R.Source.known l.initial.reader l.reader;
}
