use Rattle.deku_pieces.proofs.Packing.{laid_once}
use Rattle.deku_symmetry.proofs.last.SymmetricLast.pack_whole.Goals as goal

pub returns-clause-laid_out : goal.returns-clause-laid_out
returns-clause-laid_out g c =
    let law = g.met.Self.SymmetricLast.symmetric in
    laid_once (g.Self.DekuWriter.meaning c.args.self.now tt) (g.Self.PartLast.pieces c.args.self.now) (law.written c.args.self.now) _ c.padded_bytes.ensures
