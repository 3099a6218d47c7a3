use Rattle.std.proofs.Common.{rules, arith}
use Rattle.std.proofs.lemmas.Grind.{common_steps}
use Rattle.deku_formats_program.proofs.program.end.Goals as goal

pub returns-in_err-writeln-in-None : goal.returns-in_err-writeln-in-None
returns-in_err-writeln-in-None c = search rules

pub returns-in_err-writeln-in-Some : goal.returns-in_err-writeln-in-Some
returns-in_err-writeln-in-Some c = search rules

pub returns : goal.returns
returns c = grind (arith, common_steps)
