use Rattle.std.proofs.Common.{rules}
use Rattle.deku_reading.proofs.Slots.{full_of_map}
use Rattle.deku_reading.proofs.impls.array.ArrayArrayLike.turned.Goals as goal

pub turned_slots-requires : goal.turned_slots-requires
turned_slots-requires g c = (search rules, (search rules, full_of_map c.requires.0 _ _ c.requires.1 c.requires.2))
