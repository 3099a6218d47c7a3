use Rattle.std.proofs.Common.{arith, pos}
use Rattle.deku_num.specs.Numbers.{byte}
use Rattle.deku_num.specs.NumberCalls.{WritesNumber}
use Rattle.deku_meanings.proofs.Joining.{answered}
use Rattle.deku_writing.proofs.WritingEach.{first_then}
use Rattle.deku_writing.proofs.impls.bytes.write_first_bytes.Goals as goal

pub returns-in_default-clause-writes : goal.returns-in_default-clause-writes
returns-in_default-clause-writes g c = answered

pub returns-in_default-2-clause-writes : goal.returns-in_default-2-clause-writes
returns-in_default-2-clause-writes g c = answered

pub loop-written-init : goal.loop-written-init
loop-written-init g c = record { few = omega arith; writes = answered }

pub returns-then-count-eq0-clause-writes : goal.returns-then-count-eq0-clause-writes
returns-then-count-eq0-clause-writes g c =
    let eight = c.write_first_eight-count in
    first_then (λ x. WritesNumber byte c.args.layout (pos x)) c.args.bytes.now c.loop-written.written eight.result c.loop-written.written (omega (arith, c.if-count-eq0.true)) c.loop-written.invariant.writes
    (eight.ensures.writes c.args.layout c.in-Msb0-Whole.is-0 c.in-Msb0-Whole.is-1)

pub loop-written-preserved : goal.loop-written-preserved
loop-written-preserved g c =
    let eight = c.write_first_eight-count in
    let few = eight.ensures.few in
    record {
      few = omega (arith, few, c.loop-written.invariant.few);
      writes = first_then (λ x. WritesNumber byte c.args.layout (pos x)) c.args.bytes.now c.loop-written.written eight.result _ (omega arith) c.loop-written.invariant.writes
          (eight.ensures.writes c.args.layout c.in-Msb0-Whole.is-0 c.in-Msb0-Whole.is-1);
    }
