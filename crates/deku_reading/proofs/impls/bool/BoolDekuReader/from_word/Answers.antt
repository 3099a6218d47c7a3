use Rattle.std.proofs.Common.{◌≡◌, pos, subst, arith}
use Rattle.std.specs.Prelude.{codes}
use Rattle.deku_num.specs.Numbers.{byte}
use Rattle.deku_num.specs.Cutting.{IsCutValue}
use Rattle.deku_reading.proofs.OfBits.{truth_cut}
use Rattle.deku_reading.proofs.impls.bool.BoolDekuReader.from_word.Goals as goal

pub returns : goal.returns
returns g c =
    let e = c.in_ok-value.ensures.cut in
    let value = c.in_ok-value.value in
    let one : c.in_ok-value.bits ≡ 1 = omega (arith, e.some, c.if-bits-gt1.false) in
    let cut = subst (λ l. IsCutValue byte l c.args.order c.args.word c.args.room (pos value) 1) c.parts.ensures (subst (IsCutValue byte c.parts.result c.args.order c.args.word c.args.room (pos value)) one e) in
    rw one (truth_cut (codes "cannot parse bool value") cut c.requires.below)
