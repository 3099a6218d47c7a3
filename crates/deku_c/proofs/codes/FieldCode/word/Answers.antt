use Rattle.std.proofs.Common.{rules}
use Rattle.deku_c.proofs.Naming.{named}
use Rattle.deku_c.proofs.codes.FieldCode.word.Goals as goal

pub returns-clause-named : goal.returns-clause-named
returns-clause-named c = named c.args.self (search rules) (search rules) (search rules)
