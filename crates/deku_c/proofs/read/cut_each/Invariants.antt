use Rattle.std.proofs.Common.{◌≡◌, length}
use Rattle.deku_c.proofs.Reading.{ReadSoFar, at_bit, calm}
use Rattle.deku_c.proofs.read.cut_each.Given as goal

abbrev pub invariant-loop-place : goal.invariant-loop-place
invariant-loop-place l = (length l.numbers ≡ length l.initial.numbers)
    × ReadSoFar l.codes l.numbers l.place (at_bit l.bytes 0) calm (at_bit l.bytes l.bit) calm
