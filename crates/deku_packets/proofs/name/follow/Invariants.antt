use Rattle.std.proofs.Common.{◌-◌, Result}
use Rattle.deku_packets.specs.declared.name.Astray.{Astray}
use Rattle.deku_packets.specs.Names.{Follows}
use Rattle.deku_packets.proofs.name.follow.Given as goal

abbrev pub invariant-loop : goal.invariant-loop
invariant-loop l = (r : Result (Unit {0}) Astray) → Follows l.message l.start l.at (256 - l.counter) r → Follows l.message l.initial.at l.initial.at 256 r
