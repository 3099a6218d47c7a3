use Rattle.std.proofs.Common.{◌≡◌, ◌*◌, List, length}
use Rattle.deku_bits.specs.Standings.{reader_state}
use Rattle.deku_fields.specs.declared.list.Number.{Number}
use Rattle.deku_plan.proofs.Columned.{IsBelow}
use Rattle.deku_plan.proofs.Running.{Follows}
use Rattle.deku_plan.proofs.plan.column.read_each.Given as goal

abbrev pub invariant-loop-place : goal.invariant-loop-place
invariant-loop-place g l = (ns : List Number) × (length ns ≡ l.place * length l.fields)
    × Follows l.fields (length l.initial.out) l.place ns
    (reader_state (g.R.Source.known l.initial.reader.source).remaining l.initial.reader.state) (g.R.Source.known l.initial.reader.source).health
    (reader_state (g.R.Source.known l.reader.source).remaining l.reader.state) (g.R.Source.known l.reader.source).health
    × IsBelow (length l.fields) l.index l.place ns l.out
