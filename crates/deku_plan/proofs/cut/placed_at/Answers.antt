use Rattle.std.proofs.Common.{◌+◌, ◌*◌, subst, arith}
use Rattle.deku_bits.specs.declared.ctx.Order.TheVariants.{Msb0}
use Rattle.deku_bits.specs.Streams.{taken, left, fresh}
use Rattle.deku_fields.specs.declared.list.Number.TheVariants.{Unsigned}
use Rattle.deku_fields.specs.Items.{IsWorth}
use Rattle.deku_plan.proofs.EightCut.{taken_wide}
use Rattle.deku_plan.proofs.Worth.{worth_high}
use Rattle.deku_plan.proofs.cut.placed_at.Goals as goal

pub returns : goal.returns
returns c =
    let h = c.requires.high in
    let w = c.args.step.width in
    let bit = 8 * c.args.place + c.args.bit in
    let s = taken Msb0 w (left Msb0 bit (fresh c.args.bytes.now)) in
    subst (λ n. IsWorth c.args.field.now (taken Msb0 n (left Msb0 bit (fresh c.args.bytes.now))) (Unsigned c.placed_bits.result)) c.requires.step.wide
    (worth_high c.args.field.now s c.placed_bits.result w h.unsigned h.big h.high c.requires.step.wide
    (taken_wide w bit c.args.bytes.now (omega (arith, c.requires.few, c.requires.there))) c.placed_bits.ensures)

pub placed_bits-requires-clause-mask : goal.placed_bits-requires-clause-mask
placed_bits-requires-clause-mask c = c.requires.step.mask (omega (arith, c.requires.few))
