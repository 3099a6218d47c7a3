use Rattle.deku_num.proofs.Summed.{summed}
use Rattle.deku_num.proofs.size.shapes.Tuple11DekuSize.size_bits.Goals as goal

pub returns : goal.returns
returns g c = search (summed, c.size_bits.ensures, c.size_bits-2.ensures, c.sum.ensures)
