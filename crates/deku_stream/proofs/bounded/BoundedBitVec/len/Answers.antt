use Rattle.std.proofs.Common.{sym}
use Rattle.deku_stream.proofs.Holding.{opened}
use Rattle.deku_stream.proofs.bounded.BoundedBitVec.len.Goals as goal

pub returns-clause-len : goal.returns-clause-len
returns-clause-len g c = sym ((opened c.self.inside.bytes c.self.inside.len g.row.N c.args.self.now c.self.told c.self.invariant c.self.view_is).len)
