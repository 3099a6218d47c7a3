use Rattle.std.proofs.Common.{rules}
use Rattle.deku.proofs.container.push_bits.Goals as goal

pub loop-place-init : goal.loop-place-init
loop-place-init c = search rules
