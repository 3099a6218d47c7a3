use Rattle.deku.proofs.Joining.{passed_on, mapped_ok, mapped_err, first_refused, then_on}
use Rattle.deku_symmetry.proofs.prefixed.PrefixedDekuReaderUnit.from_reader_with_ctx.Goals as goal

pub returns-in_err-count-clause-reads : goal.returns-in_err-count-clause-reads
returns-in_err-count-clause-reads g c = passed_on _ c.from_residual.ensures.1 (first_refused c.in_err-count.ensures.reads)

pub returns-in_err-items-clause-reads : goal.returns-in_err-items-clause-reads
returns-in_err-items-clause-reads g c =
    passed_on _ c.from_residual-in_err-items.ensures.1
    (then_on c.in_ok-count.ensures.reads (mapped_err (λ xs. record { items = xs; count = record {} }) (rw (c.new_count-limit.ensures, c.number.ensures) at c.in_err-items.ensures.reads)))

pub returns-clause-reads : goal.returns-clause-reads
returns-clause-reads g c = rw c.new.ensures (then_on c.in_ok-count.ensures.reads (mapped_ok (λ xs. record { items = xs; count = record {} }) (rw (c.new_count-limit.ensures, c.number.ensures) at c.in_ok-items.ensures.reads)))
