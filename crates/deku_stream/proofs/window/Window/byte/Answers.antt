use Rattle.deku_stream.proofs.Windows.{whole_byte}
use Rattle.deku_stream.proofs.window.Window.byte.Goals as goal

pub returns : goal.returns
returns c = whole_byte c.self.inside.len c.self.inside.bits c.args.self.now c.self.view_is c.requires
