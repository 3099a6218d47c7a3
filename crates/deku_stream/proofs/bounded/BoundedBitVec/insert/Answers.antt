use Rattle.std.proofs.Common.{◌≡◌, ◌+◌, ◌-◌, Bool, List, ◌∷◌, ◌++◌, length, take, drop, ap, sym, ◌∙◌, arith, length-drop}
use Rattle.std.proofs.lemmas.List.{length-take-le, drop-take}
use Rattle.deku_stream.specs.Bits.{bits_in}
use Rattle.deku_stream.proofs.BitPlaces.{length-bits_in}
use Rattle.deku_stream.proofs.Holding.{opened, closed, laid_to}
use Rattle.deku_stream.proofs.bounded.BoundedBitVec.insert.Goals as goal

pub insert_bit-requires-clause-room : goal.insert_bit-requires-clause-room
insert_bit-requires-clause-room g c = omega (arith, (opened c.self.inside.bytes c.self.inside.len g.row.N c.args.self.now c.self.told c.self.invariant c.self.view_is).len, (opened c.self.inside.bytes c.self.inside.len g.row.N c.args.self.now c.self.told c.self.invariant c.self.view_is).all, length-bits_in c.self.inside.bytes)

pub invariant_of-self : goal.invariant_of-self
invariant_of-self g c =
    let h = opened c.self.inside.bytes c.self.inside.len g.row.N c.args.self.now c.self.told c.self.invariant c.self.view_is in
    let tail : List Bool = take (c.self.inside.len - c.args.at) (drop c.args.at (bits_in c.self.inside.bytes)) in
    let count : length tail ≡ c.self.inside.len - c.args.at =
    length-take-le (c.self.inside.len - c.args.at) (drop c.args.at (bits_in c.self.inside.bytes)) (omega (arith, length-drop c.args.at (bits_in c.self.inside.bytes), h.all, h.within)) in
    closed (laid_to c.self.inside.bytes c.insert_bit.new.bytes c.self.inside.len g.row.N (c.self.inside.len + 1) c.args.self.now c.args.at (c.args.bit ∷ tail) h (c.insert_bit.ensures.bits) (omega arith) (omega (arith, h.len)) (omega arith) (omega (arith, h.len)))

pub returns : goal.returns
returns g c =
    let h = opened c.self.inside.bytes c.self.inside.len g.row.N c.args.self.now c.self.told c.self.invariant c.self.view_is in
    let tail : List Bool = take (c.self.inside.len - c.args.at) (drop c.args.at (bits_in c.self.inside.bytes)) in
    let count : length tail ≡ c.self.inside.len - c.args.at =
    length-take-le (c.self.inside.len - c.args.at) (drop c.args.at (bits_in c.self.inside.bytes)) (omega (arith, length-drop c.args.at (bits_in c.self.inside.bytes), h.all, h.within)) in
    let whole : c.args.at + (c.self.inside.len - c.args.at) ≡ c.self.inside.len = omega (arith, h.len) in
    let tail_is : tail ≡ drop c.args.at c.args.self.now =
    sym (drop-take c.args.at (c.self.inside.len - c.args.at) (bits_in c.self.inside.bytes))
    ∙ ap (λ n. drop c.args.at (take n (bits_in c.self.inside.bytes))) whole ∙ ap (drop c.args.at) (h.is) in
    (laid_to c.self.inside.bytes c.insert_bit.new.bytes c.self.inside.len g.row.N (c.self.inside.len + 1) c.args.self.now c.args.at (c.args.bit ∷ tail) h (c.insert_bit.ensures.bits) (omega arith) (omega (arith, h.len)) (omega arith) (omega (arith, h.len))).is ∙ ap (λ s. take c.args.at c.args.self.now ++ c.args.bit ∷ s) tail_is
