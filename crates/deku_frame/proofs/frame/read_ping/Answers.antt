use Rattle.deku.proofs.Joining.{passed_on, mapped_ok, mapped_err}
use Rattle.deku_frame.specs.declared.frame.Frame.TheVariants.{Ping}
use Rattle.deku_frame.proofs.frame.read_ping.Goals as goal

pub returns-in_err-token-clause-reads : goal.returns-in_err-token-clause-reads
returns-in_err-token-clause-reads g c = passed_on _ c.from_residual.ensures.1 (mapped_err Ping c.in_err-token.ensures.reads)

pub returns-clause-reads : goal.returns-clause-reads
returns-clause-reads g c = mapped_ok Ping c.in_ok-token.ensures.reads
