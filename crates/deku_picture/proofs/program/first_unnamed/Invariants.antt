use Rattle.std.proofs.Common.{take}
use Rattle.deku_program.specs.Texts.{words_of}
use Rattle.deku_picture.specs.Names.{NameFields}
use Rattle.deku_picture.proofs.program.first_unnamed.Given as goal

abbrev pub invariant-loop-word : goal.invariant-loop-word
invariant-loop-word l = NameFields (words_of (take l.word-index l.specs))
