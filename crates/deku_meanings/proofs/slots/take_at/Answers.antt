use Rattle.std.proofs.Common.{rules, arith}
use Rattle.std.proofs.lemmas.Grind.{common_steps}
use Rattle.deku_meanings.proofs.slots.take_at.Goals as goal

pub unwrap-requires : goal.unwrap-requires
unwrap-requires g c = search rules

pub returns-clause-value : goal.returns-clause-value
returns-clause-value g c = grind (arith, common_steps)

pub returns-clause-after : goal.returns-clause-after
returns-clause-after g c = search rules
