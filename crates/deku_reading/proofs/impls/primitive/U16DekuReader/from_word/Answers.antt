use Rattle.std.proofs.Common.{refl, subst, pos}
use Rattle.deku_num.specs.Numbers.{unsigned}
use Rattle.deku_num.specs.Cutting.{IsCutValue}
use Rattle.deku_reading.proofs.OfBits.{unsigned_cut}
use Rattle.deku_reading.proofs.impls.primitive.U16DekuReader.from_word.Goals as goal

pub returns : goal.returns
returns g c = unsigned_cut refl (subst (λ l. IsCutValue (unsigned 16) l c.args.order c.args.word c.args.room (pos c.in_ok-value.value) c.in_ok-value.bits) c.parts.ensures c.in_ok-value.ensures.cut)
