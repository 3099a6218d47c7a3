use Rattle.std.proofs.Common.{rules}
use Rattle.deku_picture.proofs.program.fields_of.Goals as goal

pub returns-in_err-push : goal.returns-in_err-push
returns-in_err-push c = search rules
