use Rattle.deku_reader.proofs.reader.Reader.skip_bits.Goals as goal

pub returns-clause-skips : goal.returns-clause-skips
returns-clause-skips g c = c.skip_bits.ensures.skips

pub returns-clause-early : goal.returns-clause-early
returns-clause-early g c = c.skip_bits.ensures.early

pub returns-clause-still : goal.returns-clause-still
returns-clause-still g c = c.skip_bits.ensures.still

pub returns-clause-named : goal.returns-clause-named
returns-clause-named g c = c.skip_bits.ensures.named

pub returns-clause-stopped : goal.returns-clause-stopped
returns-clause-stopped g c = c.skip_bits.ensures.stopped
