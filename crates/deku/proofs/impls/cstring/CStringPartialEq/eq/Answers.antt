use Rattle.std.proofs.Common.{rules}
use Rattle.deku.proofs.impls.cstring.CStringPartialEq.eq.Goals as goal

pub returns : goal.returns
returns c = search rules
