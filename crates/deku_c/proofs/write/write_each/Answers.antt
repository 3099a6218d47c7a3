use Rattle.std.proofs.Common.{arith}
use Rattle.deku_bits.proofs.Handing.{passed_on}
use Rattle.deku_c.proofs.Writing.{none_written, one_more, one_refused, all_written}
use Rattle.deku_c.proofs.write.write_each.Goals as goal

pub loop-place-init : goal.loop-place-init
loop-place-init g c = none_written c.args.codes.now c.args.numbers.now _ _

pub loop-place-preserved : goal.loop-place-preserved
loop-place-preserved g c = one_more c.write_calls_law.ensures c.args.codes.now c.args.numbers.now c.loop-place.place _ _ (omega arith) (omega (arith, c.requires)) c.loop-place.invariant c.in_ok-write_one.ensures

pub returns-in_err-write_one : goal.returns-in_err-write_one
returns-in_err-write_one g c = passed_on _ c.from_residual.ensures.1
    (one_refused c.write_calls_law.ensures c.args.codes.now c.args.numbers.now c.loop-place.place _ _ _ (omega arith) (omega (arith, c.requires)) c.loop-place.invariant c.in_err-write_one.ensures)

pub returns : goal.returns
returns g c = all_written c.args.codes.now c.args.numbers.now c.loop-place.place (omega arith) (omega (arith, c.requires)) c.loop-place.invariant
