use Rattle.std.proofs.Common.{rules}
use Rattle.deku_stream.proofs.Windows.{how_many}
use Rattle.deku_stream.proofs.window.Window.len.Goals as goal

pub returns-clause-value : goal.returns-clause-value
returns-clause-value c = how_many c.self.inside.len c.self.inside.bits c.args.self.now c.self.view_is

pub returns-clause-bound : goal.returns-clause-bound
returns-clause-bound c = search rules
