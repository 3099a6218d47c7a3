use Rattle.std.proofs.Common.{arith}
use Rattle.deku_program.proofs.Giving.{begun_part, given_part, begun_short}
use Rattle.deku_program.proofs.output.give_parts.Goals as goal

pub returns-in_err-give_text-clause-begun : goal.returns-in_err-give_text-clause-begun
returns-in_err-give_text-clause-begun g c =
    let told = g.W.Write.contents in
    begun_part (told c.args.output.now) (told c.loop-part.output) (told c.give_text.new.output) c.args.parts.now c.loop-part.part-index _ c.as_bytes.result.now (omega arith) c.as_bytes.ensures.value c.loop-part.invariant
    (begun_short (told c.loop-part.output) (told c.give_text.new.output) c.as_bytes.result.now c.in_err-give_text.ensures.cut)

pub loop-part-preserved : goal.loop-part-preserved
loop-part-preserved g c =
    let told = g.W.Write.contents in
    given_part (told c.args.output.now) (told c.loop-part.output) (told c.give_text.new.output) c.args.parts.now c.loop-part.part-index _ c.as_bytes.result.now (omega arith) c.as_bytes.ensures.value c.loop-part.invariant c.in_ok-give_text.ensures.given
