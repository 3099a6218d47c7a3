use Rattle.std.proofs.Common.{ap, arith, refl, rules, ◌%◌, ◌*◌, ◌+◌, ◌/◌, ◌^◌, ◌∙◌}
use Rattle.std.proofs.lemmas.Nat.{one_shl}
use Rattle.deku_num.proofs.Turned.{high_turned, both_turned, both_fit}
use Rattle.deku_num.proofs.kernel.narrow.number_of_high.Goals as goal

pub returns-then-behind-eq0 : goal.returns-then-behind-eq0
returns-then-behind-eq0 c = λ s l e. c.turned.ensures.value ∙ high_turned s c.args.word (c.args.width / 8) (omega arith) (omega arith) e

pub overflow_add-result : goal.overflow_add-result
overflow_add-result c =
    let h = both_fit 64 c.turned-2.result (c.args.width / 8) (c.args.width % 8) c.args.width c.args.word c.turned-2.ensures.bound (omega arith) c.requires.few c.requires.fits in
    rw h.0 (record { fits = h.1 })

pub returns : goal.returns
returns c = λ s l e.
    let q = c.args.width / 8 in
    let h = both_fit 64 c.turned-2.result q (c.args.width % 8) c.args.width c.args.word c.turned-2.ensures.bound (omega arith) c.requires.few c.requires.fits in
    ap (λ x. x + c.args.word / 2 ^ (8 * q)) (h.0 ∙ ap (λ x. x * 2 ^ (c.args.width % 8)) c.turned-2.ensures.value)
    ∙ both_turned s c.args.word q (c.args.width % 8) _ _ (omega arith) (omega arith) (omega arith) (omega arith) e (ap (λ x. c.args.word % x) (one_shl (8 * q) 64 (omega arith))) refl

pub turned-requires-clause-some : goal.turned-requires-clause-some
turned-requires-clause-some c = search rules

pub turned-requires-clause-few : goal.turned-requires-clause-few
turned-requires-clause-few c = search rules

pub overflow_mul-whole : goal.overflow_mul-whole
overflow_mul-whole c = search rules

pub overflow_shl-low : goal.overflow_shl-low
overflow_shl-low c = search rules

pub nonzero_rem-low : goal.nonzero_rem-low
nonzero_rem-low c = search rules

pub turned-requires-2-clause-some : goal.turned-requires-2-clause-some
turned-requires-2-clause-some c = search rules

pub turned-requires-2-clause-few : goal.turned-requires-2-clause-few
turned-requires-2-clause-few c = search rules

pub overflow_shl-result : goal.overflow_shl-result
overflow_shl-result c = search rules

pub overflow_shr-result : goal.overflow_shr-result
overflow_shr-result c = search rules
