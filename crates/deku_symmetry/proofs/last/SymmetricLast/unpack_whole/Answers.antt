use Rattle.deku_pieces.proofs.ToEnd.{unpacked_whole, last_taken}
use Rattle.deku_symmetry.proofs.last.SymmetricLast.unpack_whole.Goals as goal

pub returns-clause-back : goal.returns-clause-back
returns-clause-back g c =
    unpacked_whole g.Self.PartLast.pieces g.Self.PartLast.same (λ v. g.Self.DekuWriter.meaning v tt) (g.Self.DekuReader.meaning tt) g.met.Self.SymmetricLast.symmetric c.args.bytes.now _ c.read_whole.ensures

pub returns-clause-taken : goal.returns-clause-taken
returns-clause-taken g c =
    last_taken g.Self.PartLast.pieces g.Self.PartLast.same (λ v. g.Self.DekuWriter.meaning v tt) (g.Self.DekuReader.meaning tt) g.met.Self.SymmetricLast.symmetric c.args.bytes.now _ c.read_whole.ensures
