use Rattle.deku_reader.proofs.reader.Reader.read_short_word.Goals as goal

pub returns-clause-reads : goal.returns-clause-reads
returns-clause-reads g c = c.take_short_word.ensures.reads

pub returns-clause-fetched : goal.returns-clause-fetched
returns-clause-fetched g c = c.take_short_word.ensures.fetched

pub returns-clause-early : goal.returns-clause-early
returns-clause-early g c = c.take_short_word.ensures.early

pub returns-clause-still : goal.returns-clause-still
returns-clause-still g c = c.take_short_word.ensures.still

pub returns-clause-stopped : goal.returns-clause-stopped
returns-clause-stopped g c = c.take_short_word.ensures.stopped
