use Rattle.std.proofs.Common.{rules, sym, ◌∙◌}
use Rattle.deku_fields.proofs.Runs.{usage_is, usage_told}
use Rattle.deku_fields.proofs.program.run.Goals as goal

pub returns-clause-told : goal.returns-clause-told
returns-clause-told g c two = usage_told c.in-Err.failure (g.E.Write.contents c.args.errors.now) (g.E.Write.contents c.complain.new.errors) (sym c.status_of.ensures ∙ two) c.complain.ensures.begun

pub returns-clause-stopped : goal.returns-clause-stopped
returns-clause-stopped g c one = record { failure = c.in-Err.failure; ends = c.in-Err.ensures.ends; one = sym c.status_of.ensures ∙ one; told = c.complain.ensures.begun }

pub returns-clause-kept : goal.returns-clause-kept
returns-clause-kept g c = search rules

pub returns-clause-usage : goal.returns-clause-usage
returns-clause-usage g c two = c.in-Err.ensures.usage (usage_is c.in-Err.failure (sym c.status_of.ensures ∙ two))

pub returns-in_default-clause-quiet : goal.returns-in_default-clause-quiet
returns-in_default-clause-quiet g c = search rules
