use Rattle.std.proofs.Common.{◌≡◌, ◌-◌, ◌^◌, false}
use Rattle.deku_bits.specs.Standings.{count_of, reader_state}
use Rattle.deku_meanings.specs.Composing.{Then}
use Rattle.deku_reading.specs.Limits.{MoreToCome}
use Rattle.deku_reading.proofs.Judging.{Gathering}
use Rattle.deku_reading.proofs.impls.gather.gather_to_end.Given as goal

abbrev pub invariant-loop-into : goal.invariant-loop-into
invariant-loop-into g l = Gathering {J = Unit {0}} g.B.Gather.puts (λ _ _ v _. v ≡ false) (Then MoreToCome (λ _. g.T.DekuReader.meaning l.ctx)) tt tt l.initial.into l.into
    (reader_state (g.R.Source.known l.initial.reader.source).remaining l.initial.reader.state) (g.R.Source.known l.initial.reader.source).health
    (reader_state (g.R.Source.known l.reader.source).remaining l.reader.state) (g.R.Source.known l.reader.source).health

abbrev pub decreases-loop-into : goal.decreases-loop-into
decreases-loop-into g l = 2 ^ 64 - count_of l.reader.state
