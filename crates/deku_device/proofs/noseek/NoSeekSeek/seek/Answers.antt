use Rattle.std.proofs.Common.{rules}
use Rattle.deku_device.proofs.noseek.NoSeekSeek.seek.Goals as goal

pub returns-then-is_here-clause-here : goal.returns-then-is_here-clause-here
returns-then-is_here-clause-here g c = search rules

pub returns-then-is_here-clause-refused : goal.returns-then-is_here-clause-refused
returns-then-is_here-clause-refused g c = search rules

pub returns-then-is_here-clause-stays : goal.returns-then-is_here-clause-stays
returns-then-is_here-clause-stays g c = search rules

pub returns-then-is_here-clause-moves : goal.returns-then-is_here-clause-moves
returns-then-is_here-clause-moves g c = search rules

pub returns-then-is_here-clause-bytes : goal.returns-then-is_here-clause-bytes
returns-then-is_here-clause-bytes g c = search rules

pub returns-else-is_here-clause-here : goal.returns-else-is_here-clause-here
returns-else-is_here-clause-here g c = search rules

pub returns-else-is_here-clause-refused : goal.returns-else-is_here-clause-refused
returns-else-is_here-clause-refused g c = search rules

pub returns-else-is_here-clause-stays : goal.returns-else-is_here-clause-stays
returns-else-is_here-clause-stays g c = search rules

pub returns-else-is_here-clause-moves : goal.returns-else-is_here-clause-moves
returns-else-is_here-clause-moves g c = search rules

pub returns-else-is_here-clause-bytes : goal.returns-else-is_here-clause-bytes
returns-else-is_here-clause-bytes g c = search rules
