use Rattle.deku_symmetry.proofs.chosen_by.ChosenByRefDekuWriterUnit.to_writer.Goals as goal

pub returns : goal.returns
returns g c = rw c.parts-kind.ensures at c.write_chosen.ensures
