use Rattle.std.proofs.Common.{◌≡◌, ◌+◌, ◌-◌, ◌*◌, ◌%◌, sym, ap, ◌∙◌, arith}
use Rattle.deku_bits.proofs.Packed.{joined_below}
use Rattle.deku_plan.proofs.EightCut.{taken_parts, below_64}
use Rattle.deku_bits.specs.declared.ctx.Order.TheVariants.{Msb0}
use Rattle.deku_bits.specs.Bits.{bin}
use Rattle.deku_bits.specs.Streams.{taken, left, fresh}
use Rattle.deku_plan.proofs.cut.bits_at.Goals as goal

pub returns-clause-number : goal.returns-clause-number
returns-clause-number c =
    let w = c.args.width in
    let high = c.few_at-high.result in
    let low = c.few_at-low.result in
    let parts : w ≡ (w - 32) + 32 = omega (arith, c.if-width-le57.false) in
    let same : high * 4294967296 % 18446744073709551616 ≡ high * 4294967296 = below_64 (w - 32) high (omega (arith, c.requires.few)) c.few_at-high.ensures.below in
    rw (same, c.few_at-high.ensures.number, c.few_at-low.ensures.number)
    (sym (ap (λ n. bin (taken Msb0 n (left Msb0 c.args.bit (fresh c.args.bytes.now)))) parts
    ∙ taken_parts (w - 32) 32 c.args.bit c.args.bytes.now (omega (arith, c.if-width-le57.false, c.requires.there))))

pub returns-clause-below : goal.returns-clause-below
returns-clause-below c =
    let w = c.args.width in
    let high = c.few_at-high.result in
    let low = c.few_at-low.result in
    let parts : (w - 32) + 32 ≡ w = omega (arith, c.if-width-le57.false) in
    let same : high * 4294967296 % 18446744073709551616 ≡ high * 4294967296 = below_64 (w - 32) high (omega (arith, c.requires.few)) c.few_at-high.ensures.below in
    rw (same, ← parts) (joined_below (w - 32) 32 high low c.few_at-high.ensures.below c.few_at-low.ensures.below)
