use Rattle.std.proofs.Common.{◌≡◌, refl}
use Rattle.std.specs.Int.NonZero.{non_zero_usize_get}
use Rattle.deku_bits.proofs.Handing.{passed_on}
use Rattle.deku_meanings.proofs.Joining.{first_refused, then_on}
use Rattle.deku_reading.proofs.Holding.{denied, shown_behind}
use Rattle.deku_reading.proofs.impls.nonzero.NonZeroUsizeDekuReader.from_reader_with_ctx.Goals as goal

pub returns-in_err-number-clause-reads : goal.returns-in_err-number-clause-reads
returns-in_err-number-clause-reads g c = passed_on _ c.from_residual.ensures.1 (first_refused c.in_err-number.ensures.reads)

pub returns-in-Some-clause-reads : goal.returns-in-Some-clause-reads
returns-in-Some-clause-reads g c = then_on c.in_ok-number.ensures.reads (shown_behind c.in-Some.ensures)

pub returns-in-None-clause-reads : goal.returns-in-None-clause-reads
returns-in-None-clause-reads g c = then_on c.in_ok-number.ensures.reads (denied (λ n. n ≡ 0) non_zero_usize_get _ refl c.in-None.ensures)

pub returns-in-Some-clause-early : goal.returns-in-Some-clause-early
returns-in-Some-clause-early g c = λ _. c.in_ok-number.ensures.early
