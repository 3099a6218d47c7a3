use borrow.Author.Rules.{of_calls}
use Rattle.deku_meanings.proofs.ctx.Limit.new_until.Goals as goal

pub returns : goal.returns
returns g c = search of_calls parts 8
