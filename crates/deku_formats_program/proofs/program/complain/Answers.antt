use Rattle.std.proofs.Common.{rules}
use Rattle.deku_formats_program.proofs.program.complain.Goals as goal

pub returns-in-Usage-clause-begun : goal.returns-in-Usage-clause-begun
returns-in-Usage-clause-begun g c = search rules

pub returns-in-BadText-clause-begun : goal.returns-in-BadText-clause-begun
returns-in-BadText-clause-begun g c = search rules
