use Rattle.std.proofs.Common.{rules}
use Rattle.deku_frame.proofs.Having.{ping_has}
use Rattle.deku_frame.proofs.frame.Frame.ping.Goals as goal

pub returns-clause-lies : goal.returns-clause-lies
returns-clause-lies c = ping_has c.args.token (search rules)
