use Rattle.std.proofs.Common.{◌≡◌, length, map, take}
use Rattle.deku_bits.specs.Pieces.{total}
use Rattle.deku_bits.specs.ReaderCalls.{NoneEarly}
use Rattle.deku_bits.specs.Standings.{Untouched, reader_state}
use Rattle.deku_fields.specs.Items.{field_shape}
use Rattle.deku_fields.proofs.Stepping.{Continues}
use Rattle.deku_fields.proofs.Fetching.{Tally}
use Rattle.deku_plan.proofs.plan.read.read_steps.Given as goal

abbrev pub invariant-loop-place : goal.invariant-loop-place
invariant-loop-place g l = (length l.out ≡ length l.initial.out)
    × Continues l.fields l.place (take l.place l.out)
    (reader_state (g.R.Source.known l.initial.reader.source).remaining l.initial.reader.state) (g.R.Source.known l.initial.reader.source).health
    (reader_state (g.R.Source.known l.reader.source).remaining l.reader.state) (g.R.Source.known l.reader.source).health
    × NoneEarly l.initial.reader.state l.reader.state
    × Tally (total (map field_shape (take l.place l.fields))) l.initial.reader.state (g.R.Source.known l.initial.reader.source).remaining l.reader.state (g.R.Source.known l.reader.source).remaining
    × Untouched l.initial.reader.state l.initial.reader l.reader
    × (l.place ≡ 0 → l.reader ≡ l.initial.reader)
