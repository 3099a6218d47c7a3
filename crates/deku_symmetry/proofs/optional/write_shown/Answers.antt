use Rattle.deku.proofs.Joining.{passed_on, first_refused, then_on}
use Rattle.deku_pieces.proofs.Whether.{written_shown}
use Rattle.deku_symmetry.proofs.optional.write_shown.Goals as goal

pub returns-in_err-to_writer : goal.returns-in_err-to_writer
returns-in_err-to_writer g c =
    passed_on _ c.from_residual.ensures.1
    (written_shown g.C.Condition.shows (λ h. g.P.DekuWriter.meaning h tt) (λ x. g.T.DekuWriter.meaning x tt) c.args.head.now c.args.item.now c.if-not-in_step.ensures (first_refused c.in_err-to_writer.ensures))

pub returns : goal.returns
returns g c =
    written_shown g.C.Condition.shows (λ h. g.P.DekuWriter.meaning h tt) (λ x. g.T.DekuWriter.meaning x tt) c.args.head.now c.args.item.now c.if-not-in_step.ensures
    (then_on c.in_ok-to_writer.ensures c.to_writer-2.ensures)
