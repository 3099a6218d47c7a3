use Rattle.deku_bits.proofs.Handing.{passed_on}
use Rattle.deku_meanings.proofs.Joining.{first_refused, then_on, answered}
use Rattle.deku_reading.proofs.Early.{promptly_on}
use Rattle.deku_reading.proofs.items.ChainItems.each.Goals as goal

pub returns-in_err-item-clause-reads : goal.returns-in_err-item-clause-reads
returns-in_err-item-clause-reads g c = passed_on _ c.from_residual.ensures.1 (first_refused c.in_err-item.ensures.reads)

pub returns-in_err-rest-clause-reads : goal.returns-in_err-rest-clause-reads
returns-in_err-rest-clause-reads g c = passed_on _ c.from_residual-in_err-rest.ensures.1 (then_on c.in_ok-item.ensures.reads (first_refused c.in_err-rest.ensures.reads))

pub returns-clause-reads : goal.returns-clause-reads
returns-clause-reads g c = then_on c.in_ok-item.ensures.reads (then_on c.in_ok-rest.ensures.reads answered)

pub returns-clause-early : goal.returns-clause-early
returns-clause-early g c = λ p. promptly_on (c.in_ok-item.ensures.early p.0) (c.in_ok-rest.ensures.early p.1)
