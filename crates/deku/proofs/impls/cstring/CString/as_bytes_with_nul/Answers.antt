use Rattle.std.proofs.Common.{rules}
use Rattle.deku.proofs.impls.cstring.CString.as_bytes_with_nul.Goals as goal

pub returns-in-Ok-push-clause-ok : goal.returns-in-Ok-push-clause-ok
returns-in-Ok-push-clause-ok c = search rules
