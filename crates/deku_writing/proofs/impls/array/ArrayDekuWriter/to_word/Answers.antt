use Rattle.deku_writing.proofs.impls.array.ArrayDekuWriter.to_word.Goals as goal

pub returns : goal.returns
returns g c = rw c.as_slice.ensures at c.word_of_items.ensures
