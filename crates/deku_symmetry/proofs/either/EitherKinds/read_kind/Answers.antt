use Rattle.std.proofs.Common.{rules}
use Rattle.deku.proofs.Joining.{passed_on, mapped_ok, mapped_err}
use Rattle.deku_pieces.specs.declared.either.Either.TheVariants.{This, Other}
use Rattle.deku_pieces.proofs.Ids.{this_read, other_read}
use Rattle.deku_symmetry.proofs.either.EitherKinds.read_kind.Goals as goal

pub returns-in_err-value-clause-reads : goal.returns-in_err-value-clause-reads
returns-in_err-value-clause-reads g c = passed_on _ c.from_residual.ensures.1 (this_read (search rules) (mapped_err This c.in_err-value.ensures.reads))

pub returns-then-knows-clause-reads : goal.returns-then-knows-clause-reads
returns-then-knows-clause-reads g c = this_read (search rules) (mapped_ok This c.in_ok-value.ensures.reads)

pub returns-in_err-other-clause-reads : goal.returns-in_err-other-clause-reads
returns-in_err-other-clause-reads g c = passed_on _ c.from_residual-in_err-other.ensures.1 (other_read (search rules) (mapped_err Other c.in_err-other.ensures.reads))

pub returns-clause-reads : goal.returns-clause-reads
returns-clause-reads g c = other_read (search rules) (mapped_ok Other c.in_ok-other.ensures.reads)
