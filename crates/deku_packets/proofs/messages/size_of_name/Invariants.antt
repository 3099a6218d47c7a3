use Rattle.std.proofs.Common.{◌≡◌, ◌-◌, ◌^◌, take, min}
use Rattle.deku_packets.specs.Names.{size_of}
use Rattle.deku_packets.proofs.messages.size_of_name.Given as goal

abbrev pub invariant-loop-label : goal.invariant-loop-label
invariant-loop-label l = l.size ≡ min (size_of (take l.label-index l.name.items.items)) (2 ^ 64 - 1)
