use Rattle.std.proofs.Common.{◌≡◌, map, take}
use Rattle.deku_picture.proofs.program.fields_of.Given as goal

abbrev pub invariant-loop-each : goal.invariant-loop-each
invariant-loop-each l = l.fields.items ≡ map (λ n. n.field) (take l.each-index l.named)
