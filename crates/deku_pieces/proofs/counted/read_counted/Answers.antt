use Rattle.std.proofs.Common.{arith}
use Rattle.deku_bits.proofs.Handing.{weaker}
use Rattle.deku.proofs.Judging.{held_ok}
use Rattle.deku.proofs.Runs.{none_so_far, run_ended}
use Rattle.deku_pieces.specs.Leading.{CountedItems}
use Rattle.deku_pieces.proofs.counted.read_counted.Goals as goal

pub returns-in-Some-eq0-clause-reads : goal.returns-in-Some-eq0-clause-reads
returns-in-Some-eq0-clause-reads g c = weaker _ _ _ _ _ _ _ (λ b p. CountedItems c.in-Some-eq0.field-0 c.in-Some-eq0.is p) (held_ok (run_ended (none_so_far _ _ _) (omega (arith, c.in-Some-eq0.field-0-test, c.in-Some-eq0.field-0-is))) c.new.ensures.items)

pub returns-in-Some-clause-reads : goal.returns-in-Some-clause-reads
returns-in-Some-clause-reads g c = weaker _ _ _ _ _ _ _ (λ b p. CountedItems c.in-Some.count c.in-Some.is p) (rw c.new_count.ensures at c.from_reader_with_ctx.ensures.reads)
