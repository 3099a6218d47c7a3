use Rattle.std.proofs.Common.{arith}
use Rattle.deku_stream.proofs.Holding.{opened, closed, cleared}
use Rattle.deku_stream.proofs.bounded.BoundedBitVec.clear.Goals as goal

pub invariant_of-self : goal.invariant_of-self
invariant_of-self g c = closed (cleared c.self.inside.bytes c.clear_bits.new.bytes c.self.inside.len g.row.N c.args.self.now 0 (opened c.self.inside.bytes c.self.inside.len g.row.N c.args.self.now c.self.told c.self.invariant c.self.view_is) (c.clear_bits.ensures.bits) (omega arith))
