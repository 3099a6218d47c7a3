use Rattle.std.proofs.Common.{rules}
use Rattle.deku_bits.proofs.Handing.{passed_on}
use Rattle.deku_meanings.proofs.Joining.{first_refused, then_on}
use Rattle.deku_reading.proofs.Holding.{no_memory}
use Rattle.deku_reading.proofs.Runs.{stored}
use Rattle.deku.proofs.impls.cstring.read_byte.Goals as goal

pub returns-in-Ok-clause-reads : goal.returns-in-Ok-clause-reads
returns-in-Ok-clause-reads g c = stored c.in_ok-byte.ensures.reads

pub returns-in-Err-clause-reads : goal.returns-in-Err-clause-reads
returns-in-Err-clause-reads g c = then_on c.in_ok-byte.ensures.reads no_memory

pub returns-in_err-byte-clause-reads : goal.returns-in_err-byte-clause-reads
returns-in_err-byte-clause-reads g c = passed_on _ c.from_residual.ensures.1 (first_refused c.in_err-byte.ensures.reads)

pub returns-in-Ok-clause-early : goal.returns-in-Ok-clause-early
returns-in-Ok-clause-early g c = c.in_ok-byte.ensures.early

pub returns-in-Ok-clause-put : goal.returns-in-Ok-clause-put
returns-in-Ok-clause-put g c = search rules
