use Rattle.deku_packets.proofs.packet.read_packet.Goals as goal

pub returns : goal.returns
returns c = rw (c.headers.ensures.same, c.new-walk.ensures) at c.into_layers.ensures
