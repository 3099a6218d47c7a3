use Rattle.deku_plan.proofs.Blocks.{low_alone}
use Rattle.deku_plan.proofs.block.low_and_high.Goals as goal

pub returns-in-Unsigned : goal.returns-in-Unsigned
returns-in-Unsigned c = low_alone c.args.value c.in-Unsigned.number c.in-Unsigned.is
