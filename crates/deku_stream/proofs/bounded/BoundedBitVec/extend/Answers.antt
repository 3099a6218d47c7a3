use Rattle.std.proofs.Common.{rules, ◌+◌, ◌^◌, ◌<◌, length, arith}
use Rattle.deku_stream.proofs.BitPlaces.{length-bits_in}
use Rattle.deku_stream.proofs.Holding.{opened, closed, laid}
use Rattle.deku_stream.proofs.bounded.BoundedBitVec.extend.Goals as goal

pub put_bits-requires-clause-room : goal.put_bits-requires-clause-room
put_bits-requires-clause-room g c = omega (arith, (opened c.self.inside.bytes c.self.inside.len g.row.N c.args.self.now c.self.told c.self.invariant c.self.view_is).len, (opened c.self.inside.bytes c.self.inside.len g.row.N c.args.self.now c.self.told c.self.invariant c.self.view_is).all, length-bits_in c.self.inside.bytes)

pub put_bits-requires-clause-fits : goal.put_bits-requires-clause-fits
put_bits-requires-clause-fits g c = omega (arith, (opened c.self.inside.bytes c.self.inside.len g.row.N c.args.self.now c.self.told c.self.invariant c.self.view_is).len, (opened c.self.inside.bytes c.self.inside.len g.row.N c.args.self.now c.self.told c.self.invariant c.self.view_is).fits)

pub overflow_add-self : goal.overflow_add-self
overflow_add-self g c =
    let fits : c.self.inside.len + length c.args.bits.now < 2 ^ 64 = omega (arith, (opened c.self.inside.bytes c.self.inside.len g.row.N c.args.self.now c.self.told c.self.invariant c.self.view_is).len, (opened c.self.inside.bytes c.self.inside.len g.row.N c.args.self.now c.self.told c.self.invariant c.self.view_is).fits) in
    search (rules, fits)

pub invariant_of-self : goal.invariant_of-self
invariant_of-self g c =
    let h = opened c.self.inside.bytes c.self.inside.len g.row.N c.args.self.now c.self.told c.self.invariant c.self.view_is in
    closed (laid c.self.inside.bytes c.put_bits.new.bytes c.self.inside.len g.row.N c.args.self.now c.self.inside.len c.args.bits.now h (c.put_bits.ensures.bits) (omega arith) (omega arith) (omega (arith, h.len)))
