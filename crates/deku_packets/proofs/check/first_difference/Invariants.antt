use Rattle.std.proofs.Common.{◌≡◌, ◌≤◌, ◌-◌, length, take}
use Rattle.deku_packets.proofs.check.first_difference.Given as goal

abbrev pub invariant-loop-index : goal.invariant-loop-index
invariant-loop-index l = (take l.index l.read ≡ take l.index l.written) × (l.index ≤ length l.read) × (l.index ≤ length l.written)

abbrev pub decreases-loop-index : goal.decreases-loop-index
decreases-loop-index l = length l.read - l.index
