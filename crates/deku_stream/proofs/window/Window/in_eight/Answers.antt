use Rattle.std.proofs.Common.{◌-◌, ◌∙◌, ap, length, drop}
use Rattle.deku_stream.proofs.Windows.{last_of_eight}
use Rattle.deku_stream.proofs.window.Window.in_eight.Goals as goal

pub returns : goal.returns
returns c =
    ap (drop (8 - length c.args.self.now)) c.bits_of_byte.ensures ∙ last_of_eight c.self.inside.len c.self.inside.bits c.args.self.now c.self.view_is (c.self.invariant.0)
