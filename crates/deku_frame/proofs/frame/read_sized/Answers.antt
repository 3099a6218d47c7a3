use Rattle.deku.proofs.Joining.{passed_on, mapped_ok, mapped_err, first_refused, then_on}
use Rattle.deku_frame.proofs.frame.read_sized.Goals as goal

pub returns-in_err-length-clause-reads : goal.returns-in_err-length-clause-reads
returns-in_err-length-clause-reads g c = passed_on _ c.from_residual.ensures.1 (first_refused c.in_err-length.ensures.reads)

pub returns-in_err-payload-clause-reads : goal.returns-in_err-payload-clause-reads
returns-in_err-payload-clause-reads g c =
    passed_on _ c.from_residual-in_err-payload.ensures.1 (then_on c.in_ok-length.ensures.reads (mapped_err (λ v. (c.in_ok-length.length, v)) (rw c.new_count.ensures at c.in_err-payload.ensures.reads)))

pub returns-clause-reads : goal.returns-clause-reads
returns-clause-reads g c = then_on c.in_ok-length.ensures.reads (mapped_ok (λ v. (c.in_ok-length.length, v)) (rw c.new_count.ensures at c.in_ok-payload.ensures.reads))
