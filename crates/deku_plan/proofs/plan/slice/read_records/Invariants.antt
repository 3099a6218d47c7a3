use Rattle.std.proofs.Common.{◌≡◌, ◌*◌, length, take}
use Rattle.deku_bits.specs.Standings.{reader_state}
use Rattle.deku_plan.proofs.Running.{Follows}
use Rattle.deku_plan.proofs.plan.slice.read_records.Given as goal

abbrev pub invariant-loop : goal.invariant-loop
invariant-loop g l = (l.place ≡ l.counter * length l.fields)
    × Follows l.fields l.count l.counter (take l.place l.out)
    (reader_state (g.R.Source.known l.initial.reader.source).remaining l.initial.reader.state) (g.R.Source.known l.initial.reader.source).health
    (reader_state (g.R.Source.known l.reader.source).remaining l.reader.state) (g.R.Source.known l.reader.source).health
