use Rattle.std.proofs.Common.{map, take}
use Rattle.std.specs.List.{AllZip}
use Rattle.deku_program.specs.Texts.{words_of}
use Rattle.deku_picture.specs.Names.{Names}
use Rattle.deku_picture.proofs.program.fields_named.Given as goal

abbrev pub invariant-loop-word : goal.invariant-loop-word
invariant-loop-word l = AllZip Names (words_of (take l.word-index l.specs)) (map (λ n. n.field) l.fields.items)
