use Rattle.std.proofs.Common.{◌<◌, length, take, arith}
use Rattle.std.proofs.lemmas.List.{take_more_set}
use Rattle.deku_reader.proofs.Handouts.{hand_more, hand_some}
use Rattle.deku_reader.proofs.reader.progress.bits.hand_out.Goals as goal

pub pop-requires : goal.pop-requires
pop-requires c =
    hand_some c.args.order c.args.window.now c.loop-bit.window c.loop-bit.dst c.loop-bit.bit-index c.loop-bit.invariant (omega arith) (omega (arith, c.requires))

pub loop-bit-preserved : goal.loop-bit-preserved
loop-bit-preserved c =
    let at : c.loop-bit.bit-index < length c.loop-bit.dst = omega arith in
    rw take_more_set
    (hand_more c.args.order c.args.window.now c.loop-bit.window c.pop.new.self (take c.loop-bit.bit-index c.loop-bit.dst) c.pop.result c.loop-bit.invariant c.pop.ensures)
