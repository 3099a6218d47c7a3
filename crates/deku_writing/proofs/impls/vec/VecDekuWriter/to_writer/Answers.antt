use Rattle.deku_writing.proofs.impls.vec.VecDekuWriter.to_writer.Goals as goal

pub returns : goal.returns
returns g c = rw c.as_slice.ensures.value at c.to_writer.ensures
