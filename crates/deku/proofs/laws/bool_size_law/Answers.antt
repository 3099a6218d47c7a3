use Rattle.std.proofs.Common.{pos, refl, arith}
use Rattle.deku_num.specs.Numbers.{byte}
use Rattle.deku_meanings.specs.Shapes.{numeral}
use Rattle.deku.proofs.Whole.{number_sized, below_byte}
use Rattle.deku.proofs.laws.bool_size_law.Goals as goal

pub returns : goal.returns
returns c v = number_sized byte _ (pos (numeral v)) (record { some = omega arith; bytes = refl; whole = refl; in_type = (numeral v, refl, below_byte v) })
