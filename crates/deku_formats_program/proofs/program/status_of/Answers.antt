use Rattle.std.proofs.Common.{rules}
use Rattle.deku_formats_program.proofs.program.status_of.Goals as goal

pub returns-in-Usage : goal.returns-in-Usage
returns-in-Usage c = search rules

pub returns-in-BadText : goal.returns-in-BadText
returns-in-BadText c = search rules

pub returns-in-BadText-2 : goal.returns-in-BadText-2
returns-in-BadText-2 c = search rules

pub returns-in-BadText-3 : goal.returns-in-BadText-3
returns-in-BadText-3 c = search rules
