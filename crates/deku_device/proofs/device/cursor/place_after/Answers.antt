use Rattle.std.proofs.Common.{arith, rules}
use Rattle.deku_device.proofs.Parts.{drop_saturated}
use Rattle.deku_device.proofs.device.cursor.place_after.Goals as goal

pub returns-clause-behind : goal.returns-clause-behind
returns-clause-behind c = rw c.saturating_add.ensures (drop_saturated c.args.all.now c.args.at c.args.n (omega arith))

pub returns-clause-place : goal.returns-clause-place
returns-clause-place c = search rules
