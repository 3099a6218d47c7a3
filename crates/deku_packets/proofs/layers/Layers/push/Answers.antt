use Rattle.deku_packets.specs.contracts.reading.LayerReadLayer.TheImpl.{ghosts}
use Rattle.deku_packets.specs.Reading.{IsPlaced}
use Rattle.deku_packets.proofs.Places.{pushed}
use Rattle.deku_packets.proofs.layers.Layers.push.Goals as goal

pub invariant_of-self : goal.invariant_of-self
invariant_of-self c = record { placed = pushed (IsPlaced ghosts.reads c.args.self.now.bytes.now) c.args.self.now.items.items _ _ _ c.push.ensures.items c.requires c.args.self.now.placed }
