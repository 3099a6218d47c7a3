use Rattle.std.proofs.Common.{◌≡◌}
use Rattle.deku_packets.proofs.walk.Walk.resources.Given as goal

abbrev pub invariant-loop : goal.invariant-loop
invariant-loop l = l.self.layers.bytes.now ≡ l.fn.self.layers.bytes.now
