use Rattle.std.proofs.Common.{arith, rules}
use Rattle.deku_stream.specs.declared.ctx.Order.TheVariants.{Msb0}
use Rattle.deku_writer.proofs.Fills.{Fills-nil}
use Rattle.deku_writer.proofs.WholeBytes.{shifted_more, shifted_all}
use Rattle.deku_writer.proofs.writer.bytes.shift.Goals as goal

pub loop-i-init : goal.loop-i-init
loop-i-init c = Fills-nil Msb0 c.args.held.now c.requires.short

pub loop-i-preserved : goal.loop-i-preserved
loop-i-preserved c =
    shifted_more c.args.held.now c.loop-i.held c.pass.new.self c.args.bytes.now c.loop-i.out c.loop-i.i c.pass.result c.loop-i-test.true (omega arith) c.loop-i.invariant c.pass.ensures.fills

pub returns-clause-fills : goal.returns-clause-fills
returns-clause-fills c =
    shifted_all c.args.held.now c.loop-i.held c.args.bytes.now c.loop-i.out c.loop-i.i c.loop-i-test.false (omega arith) c.loop-i.invariant

pub bounds-bytes-i : goal.bounds-bytes-i
bounds-bytes-i c = search rules

pub bounds-out-i : goal.bounds-out-i
bounds-out-i c = search rules

pub returns-clause-len : goal.returns-clause-len
returns-clause-len c = search rules
