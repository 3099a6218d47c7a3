use Rattle.std.proofs.Common.{rules}
use Rattle.deku_fields.proofs.program.command.Goals as goal

pub returns-in_err-give_text-clause-kept : goal.returns-in_err-give_text-clause-kept
returns-in_err-give_text-clause-kept g c = search rules

pub returns-in_err-give_text-clause-usage : goal.returns-in_err-give_text-clause-usage
returns-in_err-give_text-clause-usage g c = search rules

pub returns-clause-done : goal.returns-clause-done
returns-clause-done g c = search rules

pub returns-in_err-text-clause-usage : goal.returns-in_err-text-clause-usage
returns-in_err-text-clause-usage g c = search rules

pub returns-in_err-text-clause-kept : goal.returns-in_err-text-clause-kept
returns-in_err-text-clause-kept g c = search rules
