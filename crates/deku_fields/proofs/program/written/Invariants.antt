use Rattle.std.proofs.Common.{take}
use Rattle.std.specs.List.{AllZip}
use Rattle.deku_fields.specs.Naming.{NamesItem}
use Rattle.deku_program.specs.Texts.{words_of}
use Rattle.deku_fields.proofs.program.written.Given as goal

abbrev pub invariant-loop-word : goal.invariant-loop-word
invariant-loop-word l = AllZip NamesItem (words_of (take l.word-index l.specs)) l.items.items
