use Rattle.std.proofs.Common.{◌+◌, ◌*◌}
use Rattle.deku_description.proofs.parsing.Parser.+kind.Given as goal

abbrev pub decreases-kind : goal.decreases-kind
decreases-kind l = 3 * l.depth

abbrev pub decreases-array : goal.decreases-array
decreases-array l = 3 * l.depth + 1

abbrev pub decreases-named : goal.decreases-named
decreases-named l = 3 * l.depth + 1

abbrev pub decreases-tuple : goal.decreases-tuple
decreases-tuple l = 3 * l.depth + 2

abbrev pub decreases-list_parts : goal.decreases-list_parts
decreases-list_parts l = 3 * l.depth + 1
