use Rattle.deku_callers.proofs.source.symmetric_law.Goals as goal

pub returns : goal.returns
returns g c = g.met.T.Symmetric.symmetric tt
