use Rattle.std.proofs.Common.{◌+◌, ◌*◌}
use Rattle.deku_description.proofs.formula.Parser.+expression.Given as goal

abbrev pub decreases-expression : goal.decreases-expression
decreases-expression l = 3 * l.depth

abbrev pub decreases-operand : goal.decreases-operand
decreases-operand l = 3 * l.depth + 2

abbrev pub decreases-prefixed : goal.decreases-prefixed
decreases-prefixed l = 3 * l.depth + 1

abbrev pub decreases-joined : goal.decreases-joined
decreases-joined l = 3 * l.depth + 1
