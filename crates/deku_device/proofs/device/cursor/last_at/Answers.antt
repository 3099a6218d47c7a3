use Rattle.std.proofs.Common.{rules, refl, ◌∙◌}
use Rattle.deku_device.proofs.Parts.{eight_filled}
use Rattle.deku_device.proofs.device.cursor.last_at.Goals as goal

pub returns-clause-eight : goal.returns-clause-eight
returns-clause-eight c = c.lay_front.ensures ∙ eight_filled c.args.all.now _ c.args.at c.min.result c.min-count.result (search rules) (search rules) refl
