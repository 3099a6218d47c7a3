use Rattle.std.proofs.Common.{◌<◌, ◌*◌, ◌+◌, ◌^◌, ◌++◌, ◌∙◌, take, ap, arith}
use Rattle.std.proofs.lemmas.Nat.{pow_pos}
use Rattle.deku_bits.specs.Bits.{bits_of, bits_in}
use Rattle.deku_plan.proofs.Laying.{held_below, held_more, low_part, within_word}
use Rattle.deku_plan.proofs.lay.lay_value.Goals as goal

pub overflow_mul-result : goal.overflow_mul-result
overflow_mul-result c =
    let laid = c.with_room-laid in
    let none : laid.result.word * (c.args.step.mask + 1) + 0 < 2 ^ (laid.result.held + c.args.step.width) =
    held_below laid.result.held laid.result.word c.args.step.mask c.args.step.width 0 c.requires.short.mask laid.ensures.held.below (pow_pos c.args.step.width) in
    let fits = within_word _ _ laid.ensures.room none in
    omega (arith, fits)

pub overflow_add-result-2 : goal.overflow_add-result-2
overflow_add-result-2 c =
    let laid = c.with_room-laid in
    let n = c.in-Unsigned.number in
    let fits : n < 2 ^ c.args.step.width = rw (c.in-Unsigned.is) at c.requires.fits in
    let same = low_part n c.args.step.width c.requires.short.few fits in
    let below = held_below laid.result.held laid.result.word c.args.step.mask c.args.step.width n c.requires.short.mask laid.ensures.held.below fits in
    let inside = within_word _ _ laid.ensures.room below in
    rw same (omega (arith, inside))

pub returns-clause-bits : goal.returns-clause-bits
returns-clause-bits c =
    let laid = c.with_room-laid in
    let n = c.in-Unsigned.number in
    let w = c.args.step.width in
    let fits : n < 2 ^ w = rw (c.in-Unsigned.is) at c.requires.fits in
    let same = low_part n w c.requires.short.few fits in
    rw (same, c.in-Unsigned.is)
    (held_more (bits_in (take laid.result.place laid.new.out)) laid.result.held laid.result.word c.args.step.mask w n c.requires.short.mask fits ∙ ap (λ s. s ++ bits_of w n) laid.ensures.bits)

pub returns-clause-held : goal.returns-clause-held
returns-clause-held c =
    let laid = c.with_room-laid in
    let n = c.in-Unsigned.number in
    let fits : n < 2 ^ c.args.step.width = rw (c.in-Unsigned.is) at c.requires.fits in
    let same = low_part n c.args.step.width c.requires.short.few fits in
    record {
      few = laid.ensures.room;
      below = rw same (held_below laid.result.held laid.result.word c.args.step.mask c.args.step.width n c.requires.short.mask laid.ensures.held.below fits);
    }
