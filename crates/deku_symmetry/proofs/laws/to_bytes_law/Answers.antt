use Rattle.deku_pieces.proofs.Packing.{laid_once}
use Rattle.deku_symmetry.proofs.laws.to_bytes_law.Goals as goal

pub returns : goal.returns
returns g c = λ v r w. laid_once (g.T.DekuWriter.meaning v tt) (g.T.Part.pieces v tt) ((g.met.T.Symmetric.symmetric tt).written v) r w
