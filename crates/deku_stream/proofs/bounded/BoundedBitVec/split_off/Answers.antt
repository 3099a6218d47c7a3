use Rattle.std.proofs.Common.{◌≡◌, ◌+◌, ◌-◌, Bool, List, length, take, drop, ap, sym, ◌∙◌, arith, length-drop}
use Rattle.std.proofs.lemmas.List.{length-take-le, drop-take}
use Rattle.deku_stream.specs.Bits.{bits_in}
use Rattle.deku_stream.proofs.Holding.{opened, closed, cleared, filled}
use Rattle.deku_stream.proofs.bounded.BoundedBitVec.split_off.Goals as goal

pub invariant_of-self : goal.invariant_of-self
invariant_of-self g c =
    let h = opened c.self.inside.bytes c.self.inside.len g.row.N c.args.self.now c.self.told c.self.invariant c.self.view_is in
    closed (cleared c.self.inside.bytes c.clear_bits.new.bytes c.self.inside.len g.row.N c.args.self.now c.args.at h (c.clear_bits.ensures.bits) (omega (arith, h.len)))

pub invariant_of-result : goal.invariant_of-result
invariant_of-result g c =
    let h = opened c.self.inside.bytes c.self.inside.len g.row.N c.args.self.now c.self.told c.self.invariant c.self.view_is in
    let n = c.self.inside.len - c.args.at in
    let F : List Bool = bits_in c.self.inside.bytes in
    let count : length (take n (drop c.args.at F)) ≡ n = length-take-le n (drop c.args.at F) (omega (arith, length-drop c.args.at F, h.all, h.within)) in
    closed (filled c.copy_bits.new.bytes g.row.N n (take n (drop c.args.at F)) h.fits (c.copy_bits.ensures.bits) (sym count) (omega (arith, h.within)))

pub returns-clause-taken : goal.returns-clause-taken
returns-clause-taken g c =
    let h = opened c.self.inside.bytes c.self.inside.len g.row.N c.args.self.now c.self.told c.self.invariant c.self.view_is in
    let n = c.self.inside.len - c.args.at in
    let F : List Bool = bits_in c.self.inside.bytes in
    let count : length (take n (drop c.args.at F)) ≡ n = length-take-le n (drop c.args.at F) (omega (arith, length-drop c.args.at F, h.all, h.within)) in
    let whole : c.args.at + n ≡ c.self.inside.len = omega (arith, h.len) in
    (filled c.copy_bits.new.bytes g.row.N n (take n (drop c.args.at F)) h.fits (c.copy_bits.ensures.bits) (sym count) (omega (arith, h.within))).is
    ∙ sym (drop-take c.args.at n F) ∙ ap (λ k. drop c.args.at (take k F)) whole ∙ ap (drop c.args.at) (h.is)
