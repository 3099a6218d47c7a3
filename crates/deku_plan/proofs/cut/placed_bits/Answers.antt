use Rattle.std.proofs.Common.{◌≡◌, ◌+◌, ◌-◌, ◌*◌, ◌/◌, ◌≤◌, ◌%◌, ◌^◌, All, length, bit_and, ap, sym, ◌∙◌, subst, arith}
use Rattle.std.proofs.lemmas.Nat.{and_mask}
use Rattle.std.specs.Int.{w64, from_be_bytes}
use Rattle.deku_bits.specs.declared.ctx.Order.TheVariants.{Msb0}
use Rattle.deku_bits.specs.Bits.{bin}
use Rattle.deku_bits.specs.Streams.{taken, left, fresh}
use Rattle.deku_bits.proofs.Bytes.{IsByte}
use Rattle.deku_plan.proofs.EightCut.{taken_eight}
use Rattle.deku_plan.proofs.cut.placed_bits.Goals as goal

pub returns : goal.returns
returns c =
    let w = c.args.step.width in
    let bit = c.args.bit in
    let place = c.args.place in
    let bytes = c.args.bytes.now in
    let eight = c.eight_from.result in
    let all : All IsByte eight = c.eight_from.ensures.bytes in
    let before : 8 * place ≤ 8 * place + bit = omega arith in
    let after : 8 * place + bit - 8 * place ≡ bit = omega arith in
    let few : (8 * place + bit - 8 * place) + w ≤ 64 = omega (arith, c.requires.few) in
    let mask : c.args.step.mask ≡ 2 ^ w - 1 = omega (arith, c.requires.mask) in
    let moved = c.from_be_bytes-word.result / 2 ^ (64 - bit - w) in
    let cut = taken_eight w (8 * place + bit) place bytes eight (omega arith) all c.eight_from.ensures.same c.requires.there before few in
    ap (bit_and moved) mask ∙ and_mask moved w
    ∙ ap (λ v. v / 2 ^ (64 - bit - w) % 2 ^ w) c.from_be_bytes-word.ensures
    ∙ sym (subst (λ n. bin (taken Msb0 w (left Msb0 (8 * place + bit) (fresh bytes))) ≡ from_be_bytes w64 eight / 2 ^ (64 - n - w) % 2 ^ w) after cut)
