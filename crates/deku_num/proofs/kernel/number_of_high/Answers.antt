use Rattle.std.proofs.lemmas.Grind.{common_steps}
use Rattle.std.proofs.Common.{ap, arith, refl, rules, ◌%◌, ◌*◌, ◌+◌, ◌/◌, ◌^◌, ◌∙◌}
use Rattle.std.proofs.lemmas.Nat.{one_shl}
use Rattle.deku_num.proofs.Turned.{high_turned, both_turned, both_fit}
use Rattle.deku_num.proofs.kernel.number_of_high.Goals as goal

pub returns-then-behind-eq0 : goal.returns-then-behind-eq0
returns-then-behind-eq0 c = λ s l e. c.turned.ensures.value ∙ high_turned s c.args.word (c.args.width / 8) (omega arith) (omega arith) e

pub overflow_add-result : goal.overflow_add-result
overflow_add-result c =
    let h = both_fit 128 c.turned-2.result (c.args.width / 8) (c.args.width % 8) c.args.width c.args.word c.turned-2.ensures.bound (omega arith) c.requires.wide c.requires.fits in
    rw h.0 (record { fits = h.1 })

pub returns : goal.returns
returns c = λ s l e.
    let q = c.args.width / 8 in
    let h = both_fit 128 c.turned-2.result q (c.args.width % 8) c.args.width c.args.word c.turned-2.ensures.bound (omega arith) c.requires.wide c.requires.fits in
    ap (λ x. x + c.args.word / 2 ^ (8 * q)) (h.0 ∙ ap (λ x. x * 2 ^ (c.args.width % 8)) c.turned-2.ensures.value)
    ∙ both_turned s c.args.word q (c.args.width % 8) _ _ (omega arith) (omega arith) (omega arith) (omega arith) e (ap (λ x. c.args.word % x) (one_shl (8 * q) 128 (omega arith))) refl

pub turned-requires : goal.turned-requires
turned-requires c = search rules

pub overflow_mul-whole : goal.overflow_mul-whole
overflow_mul-whole c = search rules

pub overflow_cast-low : goal.overflow_cast-low
overflow_cast-low c = search rules

pub overflow_shl-low : goal.overflow_shl-low
overflow_shl-low c = search rules

pub nonzero_rem-low : goal.nonzero_rem-low
nonzero_rem-low c = grind (arith, common_steps)

pub turned-requires-2 : goal.turned-requires-2
turned-requires-2 c = search rules

pub overflow_cast-result : goal.overflow_cast-result
overflow_cast-result c = search rules

pub overflow_shl-result : goal.overflow_shl-result
overflow_shl-result c = search rules

pub overflow_cast-result-2 : goal.overflow_cast-result-2
overflow_cast-result-2 c = search rules

pub overflow_shr-result : goal.overflow_shr-result
overflow_shr-result c = search rules
