use Rattle.std.proofs.Common.{refl, rules}
use Rattle.deku_stream.proofs.Windows.{one_bit}
use Rattle.deku_stream.proofs.window.Window.pop.Goals as goal

pub returns : goal.returns
returns c = one_bit c.take.ensures refl

pub take-requires : goal.take-requires
take-requires c = search rules
