use Rattle.std.proofs.Common.{◌≡◌, ◌+◌, ◌-◌, ◌*◌, ◌≤◌, subst, arith}
use Rattle.deku_bits.specs.declared.ctx.Order.TheVariants.{Msb0}
use Rattle.deku_bits.specs.Streams.{taken, left, fresh}
use Rattle.deku_fields.specs.Items.{field_width, IsWorth}
use Rattle.deku_plan.proofs.cut.short_at.Goals as goal

pub placed_at-requires-clause-few : goal.placed_at-requires-clause-few
placed_at-requires-clause-few c = omega (arith, c.min-place.ensures, c.requires.few, c.requires.there, c.requires.long)

pub placed_at-requires-clause-there : goal.placed_at-requires-clause-there
placed_at-requires-clause-there c = omega (arith, c.min-place.ensures, c.requires.long)

pub returns : goal.returns
returns c =
    let bit = c.args.bit in
    let place = c.min-place.result in
    let before : 8 * place ≤ bit = omega (arith, c.min-place.ensures) in
    let same : 8 * place + (bit - 8 * place) ≡ bit = omega (arith, before) in
    subst (λ n. IsWorth c.args.field.now (taken Msb0 (field_width c.args.field.now) (left Msb0 n (fresh c.args.bytes.now))) c.placed_at.result) same c.placed_at.ensures
