use Rattle.std.proofs.Common.{arith, rules}
use Rattle.std.proofs.lemmas.Grind.{common_steps}
use Rattle.deku_probe.proofs.probe.trickle.trickled_byte.Goals as goal

pub returns-in_err-fetch-clause-bytes : goal.returns-in_err-fetch-clause-bytes
returns-in_err-fetch-clause-bytes c = search rules

pub returns-in_err-fetch-clause-err : goal.returns-in_err-fetch-clause-err
returns-in_err-fetch-clause-err c = search rules

pub returns-clause-err : goal.returns-clause-err
returns-clause-err c = search rules

pub returns-clause-bytes : goal.returns-clause-bytes
returns-clause-bytes c = grind (arith, common_steps)

pub slice_bounds-fetch-end : goal.slice_bounds-fetch-end
slice_bounds-fetch-end c = search rules
