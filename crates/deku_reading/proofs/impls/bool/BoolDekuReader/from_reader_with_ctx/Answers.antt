use Rattle.std.proofs.Common.{◌<◌, refl, sym, rules}
use Rattle.deku_bits.proofs.Handing.{passed_on}
use Rattle.deku_meanings.specs.Shapes.{numeral}
use Rattle.deku_meanings.proofs.Joining.{first_refused, then_on}
use Rattle.deku_reading.proofs.Holding.{denied, shown_behind}
use Rattle.deku_reading.proofs.impls.bool.BoolDekuReader.from_reader_with_ctx.Goals as goal

pub returns-in_err-number-clause-reads : goal.returns-in_err-number-clause-reads
returns-in_err-number-clause-reads g c = passed_on _ c.from_residual.ensures.1 (first_refused c.in_err-number.ensures.reads)

pub returns-in-0-clause-reads : goal.returns-in-0-clause-reads
returns-in-0-clause-reads g c = then_on c.in_ok-number.ensures.reads (shown_behind (sym c.in-0.is))

pub returns-in-1-clause-reads : goal.returns-in-1-clause-reads
returns-in-1-clause-reads g c = then_on c.in_ok-number.ensures.reads (shown_behind (sym c.in-1.is))

pub returns-in_default-clause-reads : goal.returns-in_default-clause-reads
returns-in_default-clause-reads g c = then_on c.in_ok-number.ensures.reads (denied (λ n. 1 < n) numeral _ refl (search rules))

pub returns-in-0-clause-early : goal.returns-in-0-clause-early
returns-in-0-clause-early g c = λ _. c.in_ok-number.ensures.early

pub returns-in-1-clause-early : goal.returns-in-1-clause-early
returns-in-1-clause-early g c = λ _. c.in_ok-number.ensures.early
