use Rattle.std.proofs.Common.{◌-◌, ◌^◌}
use Rattle.deku_bits.specs.Standings.{count_of, reader_state}
use Rattle.deku_reading.specs.Early.{NoReadAhead}
use Rattle.deku_reading.proofs.Judging.{Gathering}
use Rattle.deku_reading.proofs.impls.gather.gather_until.Given as goal

abbrev pub invariant-loop-into : goal.invariant-loop-into
invariant-loop-into g l = record {
  askable : g.P.Predicate.asks_all l.predicate;
  far : Gathering g.B.Gather.puts (λ q x v k. g.P.Predicate.answers q x.item v k) (g.T.DekuReader.meaning l.ctx) l.initial.predicate l.predicate l.initial.into l.into
      (reader_state (g.R.Source.known l.initial.reader.source).remaining l.initial.reader.state) (g.R.Source.known l.initial.reader.source).health
      (reader_state (g.R.Source.known l.reader.source).remaining l.reader.state) (g.R.Source.known l.reader.source).health;
  early : g.T.DekuReader.no_read_ahead l.ctx → NoReadAhead g.R.Source.known l.initial.reader l.reader;
}

abbrev pub decreases-loop-into : goal.decreases-loop-into
decreases-loop-into g l = 2 ^ 64 - count_of l.reader.state
