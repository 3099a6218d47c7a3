use Rattle.deku_pieces.proofs.magic.MagicDekuWriterUnit.to_word.Goals as goal

pub returns : goal.returns
returns g c = rw c.value.ensures at c.to_word.ensures
