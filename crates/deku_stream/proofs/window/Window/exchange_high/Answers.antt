use Rattle.std.proofs.Common.{arith}
use Rattle.deku_stream.proofs.Windows.{as_many, high_through}
use Rattle.deku_stream.proofs.window.Window.exchange_high.Goals as goal

pub split-high-requires-clause-below : goal.split-high-requires-clause-below
split-high-requires-clause-below c = omega (arith, c.joined.ensures.value, c.self.invariant.1)

pub returns-clause-bits : goal.returns-clause-bits
returns-clause-bits c =
    let w = c.self.inside in
    high_through w.len w.bits c.args.byte c.joined.result c.split-high.result.0 c.split-high.result.1 c.args.self.now
    c.self.view_is (omega arith) (c.joined.ensures.value) (c.split-high.ensures.high) (c.split-high.ensures.low)

pub returns-clause-len : goal.returns-clause-len
returns-clause-len c = as_many c.self.inside.len c.self.inside.bits c.split-high.result.1 c.args.self.now c.self.view_is
