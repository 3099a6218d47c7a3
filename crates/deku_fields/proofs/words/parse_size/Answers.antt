use Rattle.std.proofs.Common.{arith, rules}
use Rattle.std.proofs.lemmas.Grind.{common_steps}
use Rattle.deku_fields.proofs.words.parse_size.Goals as goal

pub returns-then-is_empty : goal.returns-then-is_empty
returns-then-is_empty c = grind (arith, common_steps)

pub returns-in_err-parse_count : goal.returns-in_err-parse_count
returns-in_err-parse_count c = search rules

pub returns-in-Some : goal.returns-in-Some
returns-in-Some c = search rules

pub returns-in_err-behind : goal.returns-in_err-behind
returns-in_err-behind c = search rules

pub returns-in_err-parse_count-2 : goal.returns-in_err-parse_count-2
returns-in_err-parse_count-2 c = search rules

pub returns : goal.returns
returns c = search rules
