use Rattle.std.proofs.Common.{◌≡◌, ◌+◌, ◌*◌, ◌/◌, ◌%◌, ◌<◌, ◌≤◌, length, subst, arith}
use Rattle.deku_bits.specs.declared.ctx.Order.TheVariants.{Msb0}
use Rattle.deku_bits.specs.Streams.{taken, left, fresh}
use Rattle.deku_fields.specs.Items.{field_width, IsWorth}
use Rattle.deku_plan.proofs.Columned.{bit_of, bytes_of, each_more}
use Rattle.deku_plan.proofs.plan.column.cut_front.Goals as goal

pub front_of-front-requires-clause-inside : goal.front_of-front-requires-clause-inside
front_of-front-requires-clause-inside c =
    omega (arith, c.requires.within, c.requires.straight.some, c.requires.step.wide, c.if-bits-ne0.false)

pub front_of-front-requires-clause-there : goal.front_of-front-requires-clause-there
front_of-front-requires-clause-there c = bytes_of (length c.args.out.now) c.args.bits (length c.args.bytes.now) (omega (arith, c.if-bits-ne0.false)) c.requires.there

pub loop-place-preserved : goal.loop-place-preserved
loop-place-preserved c =
    let f = c.args.field.now in
    let bytes = c.args.bytes.now in
    let bits = c.args.bits in
    let first = c.args.first in
    let k = c.loop-place.place in
    let whole : bits % 8 ≡ 0 = omega (arith, c.if-bits-ne0.false) in
    let here : IsWorth f (taken Msb0 (field_width f) (left Msb0 (k * bits + first) (fresh bytes))) c.placed_at.result =
    subst (λ n. IsWorth f (taken Msb0 (field_width f) (left Msb0 n (fresh bytes))) c.placed_at.result) (bit_of k bits first whole) c.placed_at.ensures in
    each_more f bytes bits first k c.loop-place.out c.placed_at.result (omega arith) c.loop-place.invariant here
