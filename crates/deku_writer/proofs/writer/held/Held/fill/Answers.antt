use Rattle.deku_writer.proofs.writer.held.Held.fill.Goals as goal

pub returns-clause-fills : goal.returns-clause-fills
returns-clause-fills c = rw (← c.number_of_word.ensures.bits) c.fill_number.ensures.fills
