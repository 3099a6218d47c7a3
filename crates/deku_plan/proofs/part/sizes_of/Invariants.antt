use Rattle.std.proofs.Common.{◌≡◌, take}
use Rattle.deku_plan.specs.Blocks.{group_sizes}
use Rattle.deku_plan.proofs.part.sizes_of.Given as goal

abbrev pub invariant-loop-part : goal.invariant-loop-part
invariant-loop-part l = l.sizes.items ≡ group_sizes (take l.part-index l.parts)
