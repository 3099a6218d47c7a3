use Rattle.std.proofs.Common.{◌≡◌, ◌*◌, ◌++◌, take, ap₂, sym, ◌∙◌, arith, append_assoc}
use Rattle.deku_bits.specs.Bits.{bits_in}
use Rattle.deku_plan.specs.Laying.{value_bits}
use Rattle.deku_plan.specs.Joining.{held_bits}
use Rattle.deku_plan.proofs.Joining.{group_stored}
use Rattle.deku_plan.proofs.join.join.Goals as goal

pub returns-clause-bits : goal.returns-clause-bits
returns-clause-bits c =
    let j = c.with_value-joined.result in
    let e = c.with_value-joined.ensures in
    let bytes = c.args.part.bytes in
    let whole : 8 * bytes ≡ j.held = omega (arith, c.requires.part.bytes, e.held, c.if-part-eq0.false) in
    group_stored c.args.out.now c.put_first.new.out j.place bytes j.held j.word _ (omega arith) e.joined.few whole e.joined.low c.put_first.ensures.front
    ∙ ap₂ (λ i s. bits_in (take i c.args.out.now) ++ s) e.place e.bits
    ∙ sym (append_assoc (bits_in (take c.args.from.place c.args.out.now)) (held_bits c.args.from) (value_bits c.args.step.width c.args.value))
