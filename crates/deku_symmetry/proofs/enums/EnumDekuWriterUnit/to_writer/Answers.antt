use Rattle.std.proofs.Common.{rules}
use Rattle.deku.proofs.Joining.{passed_on, first_refused, then_on}
use Rattle.deku_pieces.proofs.Ids.{written_own}
use Rattle.deku_symmetry.proofs.enums.EnumDekuWriterUnit.to_writer.Goals as goal

pub returns-in_err-to_writer : goal.returns-in_err-to_writer
returns-in_err-to_writer g c =
    passed_on _ c.from_residual.ensures.1
    (written_own (λ n. g.I.DekuWriter.meaning (g.I.Id.part_of n) tt) g.K.KindIds.id_of g.K.KindIds.own g.K.Kinds.writes c.args.self.now.kind (search rules)
    (first_refused (rw (c.of_number-id.ensures, c.id.ensures) at c.in_err-to_writer.ensures)))

pub returns : goal.returns
returns g c =
    written_own (λ n. g.I.DekuWriter.meaning (g.I.Id.part_of n) tt) g.K.KindIds.id_of g.K.KindIds.own g.K.Kinds.writes c.args.self.now.kind (search rules)
    (then_on (rw (c.of_number-id.ensures, c.id.ensures) at c.in_ok-to_writer.ensures) c.write_kind.ensures)
