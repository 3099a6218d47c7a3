use Rattle.std.proofs.Common.{arith, refl, rules, ◌-◌, ◌≤◌}
use Rattle.deku_stream.proofs.Windows.{how_many, low_taken, low_left}
use Rattle.deku_stream.proofs.window.Window.take_low.Goals as goal

pub split-high-requires-clause-few : goal.split-high-requires-clause-few
split-high-requires-clause-few c = omega (arith, c.requires, c.self.invariant.0, how_many c.self.inside.len c.self.inside.bits c.args.self.now c.self.view_is)

pub overflow_sub-self : goal.overflow_sub-self
overflow_sub-self c = omega (arith, c.requires, how_many c.self.inside.len c.self.inside.bits c.args.self.now c.self.view_is)

pub invariant_of-self : goal.invariant_of-self
invariant_of-self c =
    let w = c.self.inside in
    let within : c.args.count ≤ w.len = omega (arith, c.requires, how_many w.len w.bits c.args.self.now c.self.view_is) in
    (omega (arith, c.self.invariant.0), low_left c.args.count w.len w.bits c.split-high.result.0 within (c.self.invariant.1) (c.split-high.ensures.high))

pub returns : goal.returns
returns c =
    let w = c.self.inside in
    low_taken c.args.count w.len (w.len - c.args.count) w.bits c.split-high.result.0 c.split-high.result.1 c.args.self.now
    c.self.view_is c.requires refl (c.split-high.ensures.high) (c.split-high.ensures.low)

pub split-high-requires-clause-below : goal.split-high-requires-clause-below
split-high-requires-clause-below c = search rules
