use Rattle.deku_pieces.proofs.Unpacking.{rest_back, rest_taken}
use Rattle.deku_symmetry.proofs.laws.from_bytes_law.Goals as goal

pub returns-clause-back : goal.returns-clause-back
returns-clause-back g c = λ bytes r w.
    rest_back (λ v. g.T.Part.pieces v tt) g.T.Part.same (λ v. g.T.DekuWriter.meaning v tt) (g.T.DekuReader.meaning tt) (g.met.T.Symmetric.symmetric tt) bytes r w

pub returns-clause-found : goal.returns-clause-found
returns-clause-found g c = λ bytes r w.
    rest_taken (λ v. g.T.Part.pieces v tt) g.T.Part.same (λ v. g.T.DekuWriter.meaning v tt) (g.T.DekuReader.meaning tt) (g.met.T.Symmetric.symmetric tt) bytes r w
