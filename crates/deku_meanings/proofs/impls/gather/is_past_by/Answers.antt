use Rattle.std.proofs.Common.{rules}
use Rattle.deku_meanings.proofs.impls.gather.is_past_by.Goals as goal

pub returns-then-start-after : goal.returns-then-start-after
returns-then-start-after c = search rules
