use Rattle.std.proofs.Common.{sym, subst, arith}
use Rattle.deku_bits.specs.declared.ctx.Order.TheVariants.{Msb0}
use Rattle.deku_bits.specs.Streams.{taken, left, fresh}
use Rattle.deku_fields.specs.declared.list.Number.TheVariants.{Unsigned}
use Rattle.deku_fields.specs.Items.{IsWorth}
use Rattle.deku_plan.proofs.EightCut.{taken_wide}
use Rattle.deku_plan.proofs.Worth.{worth_high}
use Rattle.deku_plan.proofs.Recorded.{value_reads}
use Rattle.deku_plan.proofs.at.high_at.Goals as goal

pub returns-clause-reads : goal.returns-clause-reads
returns-clause-reads c = λ f high ok wide.
    let end = c.in_ok-after.ensures in
    let w = c.args.width in
    let s = taken Msb0 w (left Msb0 c.args.bit (fresh c.args.bytes.now)) in
    let worth = worth_high f s c.bits_at.result w high.unsigned high.big high.high (sym wide) (taken_wide w c.args.bit c.args.bytes.now (omega (arith, end.after, end.there))) c.bits_at.ensures.number in
    value_reads f c.args.bytes.now c.args.bit c.in_ok-after.after (Unsigned c.bits_at.result) ok high.high (omega (arith, end.after, wide)) end.counted end.there
    (subst (λ n. IsWorth f (taken Msb0 n (left Msb0 c.args.bit (fresh c.args.bytes.now))) (Unsigned c.bits_at.result)) (sym wide) worth)
