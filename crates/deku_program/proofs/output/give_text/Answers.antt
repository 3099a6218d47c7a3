use Rattle.std.proofs.Common.{sym, subst}
use Rattle.std.proofs.lemmas.List.{take_rest}
use Rattle.deku_program.specs.Outputs.{IsGivenBut}
use Rattle.deku_program.proofs.Giving.{more_given}
use Rattle.deku_program.proofs.output.give_text.Goals as goal

pub loop-rest-preserved-in-Ok : goal.loop-rest-preserved-in-Ok
loop-rest-preserved-in-Ok g c =
    let told = g.W.Write.contents in
    let more = more_given (told c.args.output.now) (told c.loop-rest.output) (told c.write.new.self) c.args.text.now c.loop-rest.rest.now c.in-Ok.count c.loop-rest.invariant c.in-Ok.ensures.bytes in
    subst (λ z. IsGivenBut z (told c.args.output.now) (told c.write.new.self) c.args.text.now) (sym (take_rest c.loop-rest.rest.now c.in-Ok.count)) more
