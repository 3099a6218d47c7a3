use Rattle.std.proofs.Common.{rules}
use Rattle.deku_pieces.proofs.until.AtEndPredicate.test.Goals as goal

pub returns-clause-answered : goal.returns-clause-answered
returns-clause-answered g c = search rules

pub returns-clause-again : goal.returns-clause-again
returns-clause-again g c = search rules
