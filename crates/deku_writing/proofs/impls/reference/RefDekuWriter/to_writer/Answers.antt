use Rattle.deku_writing.proofs.impls.reference.RefDekuWriter.to_writer.Goals as goal

pub returns : goal.returns
returns g c = c.to_writer.ensures
