use Rattle.std.proofs.Common.{rules, subst, arith}
use Rattle.std.proofs.lemmas.Int.{ints}
use mir.Syntax.{w64}
use mir.Val.{SFits}
use Rattle.deku_num.specs.Numbers.{signed}
use Rattle.deku_num.specs.Cutting.{IsCutValue}
use Rattle.deku_reading.proofs.OfBits.{signed_cut}
use Rattle.deku_reading.proofs.impls.primitive.I64DekuReader.from_word.Goals as goal

pub returns : goal.returns
returns g c =
    let fits : SFits w64 c.in_ok-value.value = search rules in
    signed_cut (subst (λ l. IsCutValue (signed 64) l c.args.order c.args.word c.args.room c.in_ok-value.value c.in_ok-value.bits) c.parts.ensures c.in_ok-value.ensures.cut) (omega (arith, ints))
