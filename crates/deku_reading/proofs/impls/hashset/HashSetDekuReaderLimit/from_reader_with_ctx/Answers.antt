use Rattle.deku_reading.proofs.impls.hashset.HashSetDekuReaderLimit.from_reader_with_ctx.Goals as goal

pub returns-clause-reads : goal.returns-clause-reads
returns-clause-reads g c = c.from_reader_with_ctx.ensures.reads

pub returns-clause-early : goal.returns-clause-early
returns-clause-early g c = c.from_reader_with_ctx.ensures.early
