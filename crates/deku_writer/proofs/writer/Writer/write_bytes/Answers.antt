use Rattle.deku_writer.proofs.writer.Writer.write_bytes.Goals as goal

pub returns-clause-writes : goal.returns-clause-writes
returns-clause-writes g c = c.write_bytes.ensures.writes

pub returns-clause-stopped : goal.returns-clause-stopped
returns-clause-stopped g c = c.write_bytes.ensures.stopped
