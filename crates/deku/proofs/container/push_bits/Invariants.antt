use Rattle.std.proofs.Common.{◌≡◌, ◌++◌, take}
use Rattle.deku.proofs.container.push_bits.Given as goal

abbrev pub invariant-loop-place : goal.invariant-loop-place
invariant-loop-place l = l.bits.items ≡ l.initial.bits.items ++ take l.place l.more
