use Rattle.deku.proofs.Joining.{passed_on, first_refused, then_on}
use Rattle.deku_pieces.proofs.Following.{written_chosen}
use Rattle.deku_symmetry.proofs.chosen_by.write_chosen.Goals as goal

pub returns-in_err-to_writer : goal.returns-in_err-to_writer
returns-in_err-to_writer g c =
    passed_on _ c.from_residual.ensures.1
    (written_chosen g.C.IdOf.id_of g.K.KindIds.id_of g.K.KindIds.own (λ h. g.P.DekuWriter.meaning h tt) g.K.Kinds.writes c.args.head.now c.args.kind.now (rw c.id.ensures at c.if-not-is_of_id.ensures)
    (first_refused c.in_err-to_writer.ensures))

pub returns : goal.returns
returns g c =
    written_chosen g.C.IdOf.id_of g.K.KindIds.id_of g.K.KindIds.own (λ h. g.P.DekuWriter.meaning h tt) g.K.Kinds.writes c.args.head.now c.args.kind.now (rw c.id.ensures at c.if-not-is_of_id.ensures)
    (then_on c.in_ok-to_writer.ensures c.write_kind.ensures)
