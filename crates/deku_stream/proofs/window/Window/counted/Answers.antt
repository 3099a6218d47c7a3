use Rattle.std.proofs.Common.{◌≡◌, ◌*◌, ◌^◌, ◌<◌, ℕ, length, subst, sym, ap, arith, ◌∙◌}
use Rattle.deku_stream.specs.Bits.{bits_of}
use Rattle.deku_stream.proofs.Windows.{how_many}
use Rattle.deku_stream.proofs.window.Window.counted.Goals as goal

pub invariant_of-result : goal.invariant_of-result
invariant_of-result c =
    let w = c.self.inside in
    let same : w.len ≡ c.args.len = how_many w.len w.bits c.args.self c.self.view_is ∙ sym c.requires in
    rw (← same) (c.self.invariant)

pub returns : goal.returns
returns c =
    let w = c.self.inside in
    let same : w.len ≡ c.args.len = how_many w.len w.bits c.args.self c.self.view_is ∙ sym c.requires in
    ap (λ n. bits_of n w.bits) (sym same) ∙ c.self.view_is
