use Rattle.deku.proofs.Joining.{passed_on, first_refused, then_on}
use Rattle.deku_pieces.proofs.Heads.{written_in_step}
use Rattle.deku_pieces.proofs.counted.write_counted.Goals as goal

pub returns-in_err-to_writer : goal.returns-in_err-to_writer
returns-in_err-to_writer g c = passed_on _ c.from_residual.ensures.1 (written_in_step g.H.ItemCount.count_of (λ h. g.H.DekuWriter.meaning h tt) (λ x. g.T.DekuWriter.meaning x tt) (record { head = c.args.head.now; items = c.args.items.now }) (rw c.count.ensures at c.if-not-is_counted.ensures) (first_refused c.in_err-to_writer.ensures))

pub returns : goal.returns
returns g c = written_in_step g.H.ItemCount.count_of (λ h. g.H.DekuWriter.meaning h tt) (λ x. g.T.DekuWriter.meaning x tt) (record { head = c.args.head.now; items = c.args.items.now }) (rw c.count.ensures at c.if-not-is_counted.ensures) (then_on c.in_ok-to_writer.ensures c.to_writer-2.ensures)
