use Rattle.std.proofs.Common.{arith, refl, ◌-◌}
use Rattle.deku_stream.proofs.Windows.{how_many, high_taken}
use Rattle.deku_stream.proofs.window.Window.take_high.Goals as goal

pub overflow_sub-left : goal.overflow_sub-left
overflow_sub-left c = omega (arith, c.requires, how_many c.self.inside.len c.self.inside.bits c.args.self.now c.self.view_is)

pub returns : goal.returns
returns c =
    let w = c.self.inside in
    high_taken c.args.count w.len (w.len - c.args.count) w.bits c.split-high.result.0 c.split-high.result.1 c.args.self.now
    c.self.view_is c.requires refl (c.self.invariant.1) (c.split-high.ensures.high) (c.split-high.ensures.low)
