use Rattle.std.proofs.Common.{rules}
use Rattle.deku.proofs.Joining.{passed_on, mapped_ok, mapped_err}
use Rattle.deku_pieces.proofs.Ids.{known_read}
use Rattle.deku_symmetry.proofs.either.KindKinds.read_kind.Goals as goal

pub returns-in_err-value-clause-reads : goal.returns-in_err-value-clause-reads
returns-in_err-value-clause-reads g c = passed_on _ c.from_residual.ensures.1 (known_read (search rules) (mapped_err (λ v. record { 0 = v }) c.in_err-value.ensures.reads))

pub returns-clause-reads : goal.returns-clause-reads
returns-clause-reads g c = known_read (search rules) (mapped_ok (λ v. record { 0 = v }) c.in_ok-value.ensures.reads)
