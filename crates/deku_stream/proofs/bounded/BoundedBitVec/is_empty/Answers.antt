use Rattle.std.proofs.Common.{rules}
use Rattle.deku_stream.proofs.Holding.{opened}
use Rattle.deku_stream.proofs.bounded.BoundedBitVec.is_empty.Goals as goal

pub returns : goal.returns
returns g c = let len = (opened c.self.inside.bytes c.self.inside.len g.row.N c.args.self.now c.self.told c.self.invariant c.self.view_is).len in search (rules, len)
