use Rattle.std.proofs.Common.{◌-◌, arith}
use Rattle.deku_stream.proofs.Windows.{as_many, high_below, low_below, whole_below, low_through}
use Rattle.deku_stream.proofs.window.Window.exchange_low.Goals as goal

pub overflow_cast-result : goal.overflow_cast-result
overflow_cast-result c =
    let n = c.self.inside.len in
    let low = low_below (8 - n) c.args.byte c.split-high.result.1 c.split-high.ensures.low in
    omega (arith, c.joined-whole.ensures.value, whole_below (8 - n) n c.split-high.result.1 c.self.inside.bits (omega (arith, c.self.invariant.0)) low c.self.invariant.1)

pub invariant_of-self : goal.invariant_of-self
invariant_of-self c =
    let n = c.self.inside.len in
    (c.self.invariant.0, high_below n (8 - n) c.args.byte c.split-high.result.0 (omega (arith, c.self.invariant.0)) (omega arith) c.split-high.ensures.high)

pub returns-clause-bits : goal.returns-clause-bits
returns-clause-bits c =
    let w = c.self.inside in
    low_through w.len w.bits c.args.byte c.split-high.result.0 c.split-high.result.1 c.joined-whole.result c.args.self.now
    c.self.view_is c.self.invariant.0 c.self.invariant.1 c.split-high.ensures.high c.split-high.ensures.low c.joined-whole.ensures.value

pub returns-clause-len : goal.returns-clause-len
returns-clause-len c = as_many c.self.inside.len c.self.inside.bits c.split-high.result.0 c.args.self.now c.self.view_is
