use Rattle.std.proofs.Common.{rules, arith}
use Rattle.deku_plan.proofs.Recorded.{value_reads}
use Rattle.deku_plan.proofs.at.value_at.Goals as goal

pub returns-clause-reads : goal.returns-clause-reads
returns-clause-reads c =
    let end = c.in_ok-after.ensures in
    value_reads c.args.field.now c.args.bytes.now c.args.bit c.in_ok-after.after c.number_at.result c.in-Ok.ensures.step.allowed (search rules) (omega (arith, end.after, c.in-Ok.ensures.step.wide)) end.counted end.there c.number_at.ensures
