use Rattle.std.proofs.Common.{◌≡◌, false, get_or, Some, ap, sym, ◌∙◌, arith}
use Rattle.std.proofs.lemmas.List.{get_or-take}
use Rattle.std.proofs.lemmas.Option.{slice_get-get_or, slice_get_past}
use Rattle.deku_stream.specs.Bits.{bits_in}
use Rattle.deku_stream.proofs.Holding.{opened}
use Rattle.deku_stream.proofs.bounded.BoundedBitVec.get.Goals as goal

pub returns-then-at-self : goal.returns-then-at-self
returns-then-at-self g c =
    let h = opened c.self.inside.bytes c.self.inside.len g.row.N c.args.self.now c.self.told c.self.invariant c.self.view_is in
    let bit : c.bit_at.result ≡ get_or c.args.self.now c.args.at false =
    c.bit_at.ensures ∙ sym (get_or-take c.self.inside.len (bits_in c.self.inside.bytes) c.args.at false (omega arith)) ∙ ap (λ s. get_or s c.args.at false) (h.is) in
    ap Some bit ∙ sym (slice_get-get_or c.args.self.now c.args.at false (omega (arith, h.len)))

pub returns-else-at-self : goal.returns-else-at-self
returns-else-at-self g c = sym (slice_get_past c.args.self.now c.args.at (omega (arith, (opened c.self.inside.bytes c.self.inside.len g.row.N c.args.self.now c.self.told c.self.invariant c.self.view_is).len)))
