use Rattle.std.proofs.Common.{◌<◌, ◌^◌, ◌++◌, ap, sym, ◌∙◌, arith}
use Rattle.deku_plan.specs.Laying.{value_bits}
use Rattle.deku_plan.specs.Joining.{held_bits}
use Rattle.deku_plan.proofs.Joining.{word_below, word_low, held_value}
use Rattle.deku_plan.proofs.join.with_value.Goals as goal

pub overflow_mul-result : goal.overflow_mul-result
overflow_mul-result c =
    let p = c.requires.part in
    let j = c.requires.joined in
    let fits : c.word_of.result < 2 ^ c.args.step.width = rw (c.word_of.ensures) at c.requires.fits in
    let all = word_below c.args.from.word c.args.from.held c.args.step.width c.word_of.result c.args.part.scale p.few j.below j.low p.scale fits in
    omega (arith, all)

pub overflow_add-result : goal.overflow_add-result
overflow_add-result c =
    let p = c.requires.part in
    let j = c.requires.joined in
    let fits : c.word_of.result < 2 ^ c.args.step.width = rw (c.word_of.ensures) at c.requires.fits in
    let all = word_below c.args.from.word c.args.from.held c.args.step.width c.word_of.result c.args.part.scale p.few j.below j.low p.scale fits in
    omega (arith, all)

pub returns-clause-bits : goal.returns-clause-bits
returns-clause-bits c =
    let p = c.requires.part in
    let j = c.requires.joined in
    let fits : c.word_of.result < 2 ^ c.args.step.width = rw (c.word_of.ensures) at c.requires.fits in
    held_value c.args.from.word c.args.from.held c.args.step.width c.word_of.result c.args.part.scale p.few j.low p.scale fits
    ∙ ap (λ v. held_bits c.args.from ++ value_bits c.args.step.width v) (sym c.word_of.ensures)

pub returns-clause-joined : goal.returns-clause-joined
returns-clause-joined c =
    let p = c.requires.part in
    let j = c.requires.joined in
    let fits : c.word_of.result < 2 ^ c.args.step.width = rw (c.word_of.ensures) at c.requires.fits in
    record {
      few = p.few;
      below = word_below c.args.from.word c.args.from.held c.args.step.width c.word_of.result c.args.part.scale p.few j.below j.low p.scale fits;
      low = word_low c.args.from.word c.args.from.held c.args.step.width c.word_of.result c.args.part.scale p.few j.low p.scale;
    }
