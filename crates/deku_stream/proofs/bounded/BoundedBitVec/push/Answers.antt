use Rattle.std.proofs.Common.{◌+◌, [], ◌∷◌, ◌++◌, ap, ◌∙◌, arith}
use Rattle.std.proofs.lemmas.List.{take_all}
use Rattle.deku_stream.proofs.BitPlaces.{length-bits_in}
use Rattle.deku_stream.proofs.Holding.{opened, closed, laid_to}
use Rattle.deku_stream.proofs.bounded.BoundedBitVec.push.Goals as goal

pub put_bits-requires-clause-room : goal.put_bits-requires-clause-room
put_bits-requires-clause-room g c = omega (arith, (opened c.self.inside.bytes c.self.inside.len g.row.N c.args.self.now c.self.told c.self.invariant c.self.view_is).len, (opened c.self.inside.bytes c.self.inside.len g.row.N c.args.self.now c.self.told c.self.invariant c.self.view_is).all, length-bits_in c.self.inside.bytes)

pub invariant_of-self : goal.invariant_of-self
invariant_of-self g c =
    let h = opened c.self.inside.bytes c.self.inside.len g.row.N c.args.self.now c.self.told c.self.invariant c.self.view_is in
    closed (laid_to c.self.inside.bytes c.put_bits.new.bytes c.self.inside.len g.row.N (c.self.inside.len + 1) c.args.self.now c.self.inside.len (c.args.bit ∷ []) h (c.put_bits.ensures.bits) (omega arith) (omega (arith, h.len)) (omega arith) (omega (arith, h.len)))

pub returns : goal.returns
returns g c =
    let h = opened c.self.inside.bytes c.self.inside.len g.row.N c.args.self.now c.self.told c.self.invariant c.self.view_is in
    (laid_to c.self.inside.bytes c.put_bits.new.bytes c.self.inside.len g.row.N (c.self.inside.len + 1) c.args.self.now c.self.inside.len (c.args.bit ∷ []) h (c.put_bits.ensures.bits) (omega arith) (omega (arith, h.len)) (omega arith) (omega (arith, h.len))).is ∙ ap (λ s. s ++ c.args.bit ∷ []) (take_all c.self.inside.len c.args.self.now (omega (arith, h.len)))
