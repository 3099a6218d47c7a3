use Rattle.std.proofs.Common.{◌+◌, refl, ap, sym, ◌∙◌, arith}
use Rattle.deku.specs.Composing.{Then}
use Rattle.deku.proofs.Joining.{passed_on, first_refused, then_on}
use Rattle.deku_pieces.specs.Sizes.{IfGiven, given_bits}
use Rattle.deku_pieces.proofs.Sizes.{as_given, not_as_given, here, same_given, few_pending}
use Rattle.deku_pieces.proofs.sized_by.write_exactly.Goals as goal

pub returns-in_err-to_writer : goal.returns-in_err-to_writer
returns-in_err-to_writer g c =
    here (λ s. Then (g.T.DekuWriter.meaning c.args.content.now tt) (λ _. IfGiven s (given_bits s + c.args.bits))) (passed_on _ c.from_residual.ensures.1 (first_refused c.in_err-to_writer.ensures))

pub overflow_add-exact : goal.overflow_add-exact
overflow_add-exact g c = omega (arith, c.bits_given-before.ensures.small)

pub returns-then-not-exact : goal.returns-then-not-exact
returns-then-not-exact g c =
    let old = g.W.Sink.known c.args.writer.now.sink in
    let new = g.W.Sink.known c.to_writer.new.writer.sink in
    here (λ s. Then (g.T.DekuWriter.meaning c.args.content.now tt) (λ _. IfGiven s (given_bits s + c.args.bits)))
    (then_on c.in_ok-to_writer.ensures (not_as_given _ _ refl (few_pending old c.args.writer.now.state c.bits_given-before.ensures.few)
    (λ h. c.if-not-exact.true (c.bits_given.ensures.bits ∙ sym (same_given new c.to_writer.new.writer.state) ∙ h ∙ ap (λ k. k + c.args.bits) (same_given old c.args.writer.now.state ∙ sym c.bits_given-before.ensures.bits)))))

pub returns : goal.returns
returns g c =
    let old = g.W.Sink.known c.args.writer.now.sink in
    let new = g.W.Sink.known c.to_writer.new.writer.sink in
    here (λ s. Then (g.T.DekuWriter.meaning c.args.content.now tt) (λ _. IfGiven s (given_bits s + c.args.bits)))
    (then_on c.in_ok-to_writer.ensures (as_given _
    (same_given new c.to_writer.new.writer.state ∙ sym c.bits_given.ensures.bits ∙ c.if-not-exact.false ∙ ap (λ k. k + c.args.bits) (c.bits_given-before.ensures.bits ∙ sym (same_given old c.args.writer.now.state)))))
