use Rattle.std.proofs.Common.{◌≡◌, length}
use Rattle.deku_bits.specs.Standings.{reader_state}
use Rattle.deku_c.proofs.Reading.{ReadSoFar}
use Rattle.deku_c.proofs.read.read_each.Given as goal

abbrev pub invariant-loop-place : goal.invariant-loop-place
invariant-loop-place g l = (length l.numbers ≡ length l.initial.numbers)
    × ReadSoFar l.codes l.numbers l.place
    (reader_state (g.R.Source.known l.initial.reader.source).remaining l.initial.reader.state) (g.R.Source.known l.initial.reader.source).health
    (reader_state (g.R.Source.known l.reader.source).remaining l.reader.state) (g.R.Source.known l.reader.source).health
