use Rattle.std.proofs.Common.{take}
use Rattle.deku_fields.specs.Runs.{AreFields}
use Rattle.deku_program.specs.Texts.{words_of}
use Rattle.deku_fields.proofs.program.are_fields.Given as goal

abbrev pub invariant-loop-word : goal.invariant-loop-word
invariant-loop-word l = AreFields (words_of (take l.word-index l.specs))
