use Rattle.std.proofs.Common.{rules}
use Rattle.deku_frame.proofs.Having.{pair_has}
use Rattle.deku_frame.proofs.frame.Frame.pair.Goals as goal

pub returns-then-right-lt2048-clause-lies : goal.returns-then-right-lt2048-clause-lies
returns-then-right-lt2048-clause-lies c = pair_has c.args.left c.args.right (search rules) (search rules)
