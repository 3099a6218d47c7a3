use Rattle.deku_reading.proofs.impls.primitive.U8DekuReader.try_read_onto.Goals as goal

pub returns-clause-reads : goal.returns-clause-reads
returns-clause-reads g c = rw c.parts.ensures at c.read_bytes_onto.ensures.reads

pub returns-clause-early : goal.returns-clause-early
returns-clause-early g c = λ p. c.read_bytes_onto.ensures.early
