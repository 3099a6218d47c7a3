use Rattle.deku_stream.proofs.BitPlaces.{bit_is}
use Rattle.deku_stream.proofs.bounded.bit_of.Goals as goal

pub returns : goal.returns
returns c = bit_is c.args.byte c.args.place c.requires
