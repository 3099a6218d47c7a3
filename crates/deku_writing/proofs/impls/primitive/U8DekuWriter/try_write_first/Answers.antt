use Rattle.deku_writing.proofs.impls.primitive.U8DekuWriter.try_write_first.Goals as goal

pub returns-clause-writes : goal.returns-clause-writes
returns-clause-writes g c = rw c.parts.ensures at c.write_first_bytes.ensures.writes
