use Rattle.deku_writing.proofs.impls.primitive.U32DekuWriter.to_writer.Goals as goal

pub returns : goal.returns
returns g c = rw c.parts.ensures at c.write_unsigned.ensures.writes
