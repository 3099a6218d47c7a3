use Rattle.std.proofs.Common.{take, All}
use Rattle.deku_packets.specs.Back.{IsBack}
use Rattle.deku_packets.specs.contracts.check.LayerDekuWriterUnit.TheImpl.{ghosts}
use Rattle.deku_packets.proofs.check.first_change.Given as goal

abbrev pub invariant-loop-placed : goal.invariant-loop-placed
invariant-loop-placed l = All (IsBack ghosts.meaning l.bytes) (take l.placed-index l.packet.layers.items)
