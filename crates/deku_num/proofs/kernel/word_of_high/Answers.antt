use Rattle.std.proofs.Common.{ap, arith, refl, rules, ◌%◌, ◌*◌, ◌+◌, ◌/◌, ◌^◌, ◌∙◌}
use Rattle.std.proofs.lemmas.Nat.{one_shl, mod_below, pow_pos}
use Rattle.deku_num.proofs.Turned.{high_back, both_back, back_fits}
use Rattle.deku_num.proofs.kernel.word_of_high.Goals as goal

pub returns-then-behind-eq0 : goal.returns-then-behind-eq0
returns-then-behind-eq0 c = λ s l e. c.turned.ensures.value ∙ high_back s c.args.number (c.args.width / 8) (omega arith) (omega arith) e

pub overflow_add-result : goal.overflow_add-result
overflow_add-result c =
    let q = c.args.width / 8 in
    let r = c.args.width % 8 in
    let low = mod_below c.args.number (2 ^ r) (pow_pos r) in
    let h = back_fits 128 c.turned-2.result q r c.args.width (c.args.number % 2 ^ r) c.turned-2.ensures.bound (omega arith) c.requires low in
    rw (one_shl r 128 (omega arith), h.0) (record { fits = h.1 })

pub returns : goal.returns
returns c = λ s l e.
    let q = c.args.width / 8 in
    let r = c.args.width % 8 in
    let low = mod_below c.args.number (2 ^ r) (pow_pos r) in
    let h = back_fits 128 c.turned-2.result q r c.args.width (c.args.number % 2 ^ r) c.turned-2.ensures.bound (omega arith) c.requires low in
    rw (one_shl r 128 (omega arith), h.0)
    (ap (λ x. x + c.args.number % 2 ^ r * 2 ^ (8 * q)) c.turned-2.ensures.value
    ∙ both_back s c.args.number q r _ _ (omega arith) (omega arith) (omega arith) (omega arith) e refl refl)

pub turned-requires : goal.turned-requires
turned-requires c = search rules

pub overflow_cast-last : goal.overflow_cast-last
overflow_cast-last c = search rules

pub overflow_shl-last : goal.overflow_shl-last
overflow_shl-last c = search rules

pub nonzero_rem-last : goal.nonzero_rem-last
nonzero_rem-last c = search rules

pub overflow_cast-behind : goal.overflow_cast-behind
overflow_cast-behind c = search rules

pub overflow_shr-number : goal.overflow_shr-number
overflow_shr-number c = search rules

pub turned-requires-2 : goal.turned-requires-2
turned-requires-2 c = search rules

pub overflow_mul-result : goal.overflow_mul-result
overflow_mul-result c = search rules

pub overflow_cast-result : goal.overflow_cast-result
overflow_cast-result c = search rules

pub overflow_shl-result : goal.overflow_shl-result
overflow_shl-result c = search rules
