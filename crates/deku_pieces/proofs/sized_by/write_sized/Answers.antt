use Rattle.std.proofs.Common.{refl, sym, ◌∙◌}
use Rattle.deku_bits.specs.declared.error.DekuError.TheVariants.{Assertion}
use Rattle.deku.specs.Composing.{Both}
use Rattle.deku.proofs.Joining.{passed_on, first_refused, then_on}
use Rattle.deku_pieces.specs.Sizes.{WritesExactly}
use Rattle.deku_pieces.proofs.Sizes.{sized, unsized}
use Rattle.deku_pieces.proofs.sized_by.write_sized.Goals as goal

pub returns-in_err-to_writer-in-Some : goal.returns-in_err-to_writer-in-Some
returns-in_err-to_writer-in-Some g c =
    passed_on _ c.from_residual.ensures.1
    (sized Assertion c.in-Some.bits (λ n. Both (g.P.DekuWriter.meaning c.args.head.now tt) (WritesExactly n (g.T.DekuWriter.meaning c.args.content.now tt))) (sym c.size.ensures ∙ c.in-Some.is)
    (first_refused c.in_err-to_writer-in-Some.ensures))

pub returns-in_ok-to_writer-in-Some : goal.returns-in_ok-to_writer-in-Some
returns-in_ok-to_writer-in-Some g c =
    sized Assertion c.in-Some.bits (λ n. Both (g.P.DekuWriter.meaning c.args.head.now tt) (WritesExactly n (g.T.DekuWriter.meaning c.args.content.now tt))) (sym c.size.ensures ∙ c.in-Some.is)
    (then_on c.in_ok-to_writer-in-Some.ensures c.write_exactly.ensures)

pub returns-in-None : goal.returns-in-None
returns-in-None g c =
    unsized Assertion (λ n. Both (g.P.DekuWriter.meaning c.args.head.now tt) (WritesExactly n (g.T.DekuWriter.meaning c.args.content.now tt))) _ refl (sym c.size.ensures ∙ c.in-None.is)
