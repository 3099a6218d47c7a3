use Rattle.std.proofs.Common.{rules, sym, ◌∙◌, arith}
use Rattle.deku_formats_program.proofs.Telling.{usage_is, usage_told, status_within}
use Rattle.deku_formats_program.proofs.program.run.Goals as goal

pub returns-clause-status : goal.returns-clause-status
returns-clause-status g c = omega (arith, c.status_of.ensures, (status_within c.in-Err.failure).1)

pub returns-clause-done : goal.returns-clause-done
returns-clause-done g c none = absurd (omega (arith, none, c.status_of.ensures, (status_within c.in-Err.failure).0))

pub returns-clause-quiet : goal.returns-clause-quiet
returns-clause-quiet g c none = absurd (omega (arith, none, c.status_of.ensures, (status_within c.in-Err.failure).0))

pub returns-clause-usage : goal.returns-clause-usage
returns-clause-usage g c two = c.in-Err.ensures.usage (usage_is c.in-Err.failure (sym c.status_of.ensures ∙ two))

pub returns-clause-told : goal.returns-clause-told
returns-clause-told g c two = usage_told c.in-Err.failure (g.E.Write.contents c.args.errors.now) (g.E.Write.contents c.complain.new.errors) (sym c.status_of.ensures ∙ two) c.complain.ensures.begun

pub returns-clause-stopped : goal.returns-clause-stopped
returns-clause-stopped g c one = record { failure = c.in-Err.failure; ends = c.in-Err.ensures.ends; one = sym c.status_of.ensures ∙ one; told = c.complain.ensures.begun }

pub returns-clause-kept : goal.returns-clause-kept
returns-clause-kept g c = search rules
