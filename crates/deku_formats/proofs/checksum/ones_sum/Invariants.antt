use Rattle.std.proofs.Common.{◌≡◌, ◌+◌, ◌<◌, length}
use Rattle.deku_formats.specs.Checksum.{total_of, carried}
use Rattle.deku_formats.proofs.checksum.ones_sum.Given as goal

abbrev pub invariant-loop-rest : goal.invariant-loop-rest
invariant-loop-rest l = (l.sum < 65536) × (carried (total_of l.bytes) ≡ carried (l.sum + total_of l.rest))

abbrev pub decreases-loop-rest : goal.decreases-loop-rest
decreases-loop-rest l = length l.rest
