use Rattle.std.proofs.Common.{take}
use Rattle.deku_fields.specs.Runs.{AreItems}
use Rattle.deku_program.specs.Texts.{words_of}
use Rattle.deku_fields.proofs.program.are_items.Given as goal

abbrev pub invariant-loop-word : goal.invariant-loop-word
invariant-loop-word l = AreItems (words_of (take l.word-index l.specs))
