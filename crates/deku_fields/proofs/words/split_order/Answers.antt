use Rattle.std.proofs.Common.{rules}
use Rattle.deku_fields.proofs.words.split_order.Goals as goal

pub returns-in-Some : goal.returns-in-Some
returns-in-Some c = search rules

pub returns-in-Some-behind : goal.returns-in-Some-behind
returns-in-Some-behind c = search rules

pub returns : goal.returns
returns c = search rules
