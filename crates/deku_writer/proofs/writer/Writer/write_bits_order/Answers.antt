use Rattle.deku_writer.proofs.writer.Writer.write_bits_order.Goals as goal

pub returns-clause-writes : goal.returns-clause-writes
returns-clause-writes g c = c.write.ensures.writes

pub returns-clause-stopped : goal.returns-clause-stopped
returns-clause-stopped g c = c.write.ensures.stopped
