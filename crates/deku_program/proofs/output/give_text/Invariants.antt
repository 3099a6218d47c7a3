use Rattle.deku_program.specs.Outputs.{IsGivenBut}
use Rattle.deku_program.proofs.output.give_text.Given as goal

abbrev pub invariant-loop-rest : goal.invariant-loop-rest
invariant-loop-rest g l = IsGivenBut l.rest (g.W.Write.contents l.initial.output) (g.W.Write.contents l.output) l.text

abbrev pub decreases-loop-rest : goal.decreases-loop-rest
decreases-loop-rest g l = l.tries
