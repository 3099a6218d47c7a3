use Rattle.std.proofs.Common.{take}
use Rattle.deku_stream.specs.declared.ctx.Order.TheVariants.{Msb0}
use Rattle.deku_stream.specs.Bits.{bits_in}
use Rattle.deku_writer.specs.Pushing.{Fills}
use Rattle.deku_writer.proofs.writer.bytes.shift.Given as goal

abbrev pub invariant-loop-i : goal.invariant-loop-i
invariant-loop-i l = Fills Msb0 l.initial.held l.held (bits_in (take l.i l.bytes)) (take l.i l.out)
