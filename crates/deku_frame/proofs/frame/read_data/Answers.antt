use Rattle.deku.proofs.Joining.{passed_on, mapped_ok, mapped_err}
use Rattle.deku_frame.specs.declared.frame.Frame.TheVariants.{Data}
use Rattle.deku_frame.proofs.frame.read_data.Goals as goal

pub returns-in_err-length-clause-reads : goal.returns-in_err-length-clause-reads
returns-in_err-length-clause-reads g c = passed_on _ c.from_residual.ensures.1 (mapped_err (λ p. Data p.0 p.1) c.in_err-length.ensures.reads)

pub returns-clause-reads : goal.returns-clause-reads
returns-clause-reads g c = mapped_ok (λ p. Data p.0 p.1) c.in_ok-length.ensures.reads
