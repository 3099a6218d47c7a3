use Rattle.std.proofs.Common.{arith}
use Rattle.deku_bits.proofs.Handing.{passed_on}
use Rattle.deku_reading.proofs.Counting.{counts_on, count_refused, count_no_place, all_counted}
use Rattle.deku_reading.proofs.Early.{promptly_on}
use Rattle.deku_reading.proofs.impls.gather.gather_count.Goals as goal

pub returns-in_err-item-clause-reads : goal.returns-in_err-item-clause-reads
returns-in_err-item-clause-reads g c = passed_on _ c.from_residual.ensures.1 (count_refused c.loop.invariant.far c.args.count (omega arith) c.in_err-item.ensures.reads)

pub returns-in_err-put-clause-reads : goal.returns-in_err-put-clause-reads
returns-in_err-put-clause-reads g c = passed_on _ c.from_residual-in_err-put.ensures.1 (count_no_place c.loop.invariant.far c.args.count (omega arith) c.in_ok-item.ensures.reads c.in_err-put.ensures.err)

pub loop-preserved : goal.loop-preserved
loop-preserved g c = record {
  far = counts_on c.loop.invariant.far c.in_ok-item.ensures.reads c.in_ok-put.ensures.ok;
  early = λ p. promptly_on (c.loop.invariant.early p) (c.in_ok-item.ensures.early p);
}

pub returns-clause-reads : goal.returns-clause-reads
returns-clause-reads g c = all_counted c.loop.invariant.far c.args.count (omega arith)

pub returns-clause-early : goal.returns-clause-early
returns-clause-early g c = c.loop.invariant.early
