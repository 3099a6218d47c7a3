use Rattle.std.proofs.Common.{◌≡◌, ◌∙◌, length, sym, ap}
use Rattle.deku_stream.specs.Bits.{bits_of}
use Rattle.deku_stream.proofs.Binary.{length-bits_of}
use Rattle.deku_writer.proofs.writer.held.Held.follow.Goals as goal

pub invariant_of-self : goal.invariant_of-self
invariant_of-self c =
    let e : c.args.len ≡ c.next.inside.len = c.requires ∙ sym (ap length c.next.view_is) ∙ length-bits_of c.next.inside.len c.next.inside.number in
    rw e c.next.invariant

pub returns : goal.returns
returns c =
    let e : c.args.len ≡ c.next.inside.len = c.requires ∙ sym (ap length c.next.view_is) ∙ length-bits_of c.next.inside.len c.next.inside.number in
    ap (λ k. bits_of k c.next.inside.number) e ∙ c.next.view_is
