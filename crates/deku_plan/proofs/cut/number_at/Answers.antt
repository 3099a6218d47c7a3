use Rattle.std.proofs.Common.{subst}
use Rattle.deku_bits.specs.declared.ctx.Order.TheVariants.{Msb0}
use Rattle.deku_bits.specs.Streams.{taken, left, fresh}
use Rattle.deku_fields.specs.declared.list.Number.TheVariants.{Unsigned}
use Rattle.deku_fields.specs.Items.{IsWorth}
use Rattle.deku_plan.proofs.EightCut.{taken_wide}
use Rattle.deku_plan.proofs.Worth.{worth_high}
use Rattle.deku_plan.proofs.cut.number_at.Goals as goal

pub returns-then-step : goal.returns-then-step
returns-then-step c =
    let h = c.requires.step.high c.if-step.true in
    let w = c.args.step.width in
    let s = taken Msb0 w (left Msb0 c.args.bit (fresh c.args.bytes.now)) in
    subst (λ n. IsWorth c.args.field.now (taken Msb0 n (left Msb0 c.args.bit (fresh c.args.bytes.now))) (Unsigned c.bits_at-number.result)) c.requires.step.wide
    (worth_high c.args.field.now s c.bits_at-number.result w h.unsigned h.big h.high c.requires.step.wide (taken_wide w c.args.bit c.args.bytes.now c.requires.there) c.bits_at-number.ensures.number)

pub returns : goal.returns
returns c =
    let w = c.args.step.width in
    let s = taken Msb0 w (left Msb0 c.args.bit (fresh c.args.bytes.now)) in
    subst (λ n. IsWorth c.args.field.now (taken Msb0 n (left Msb0 c.args.bit (fresh c.args.bytes.now))) c.number_of.result) c.requires.step.wide
    (c.number_of.ensures s (taken_wide w c.args.bit c.args.bytes.now c.requires.there) c.bits_at-number.ensures.number)
