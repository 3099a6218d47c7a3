use Rattle.std.proofs.Common.{take}
use Rattle.std.specs.Io.KnownBytes.{Appends}
use Rattle.deku_program.specs.Told.{joined_text}
use Rattle.deku_program.proofs.output.give_parts.Given as goal

abbrev pub invariant-loop-part : goal.invariant-loop-part
invariant-loop-part g l = Appends (g.W.Write.contents l.initial.output) (g.W.Write.contents l.output) (joined_text (take l.part-index l.parts))
