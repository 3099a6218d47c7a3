use Rattle.std.proofs.Common.{rules}
use Rattle.deku_meanings.proofs.ctx.AnyPredicate.test.Goals as goal

pub returns-clause-answered : goal.returns-clause-answered
returns-clause-answered g c = search rules
