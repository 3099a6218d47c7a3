use Rattle.deku_plan.proofs.Laying.{fits_mask}
use Rattle.deku_plan.proofs.lay.bits_beyond.Goals as goal

pub returns-in-Unsigned : goal.returns-in-Unsigned
returns-in-Unsigned c = fits_mask c.args.value c.in-Unsigned.number c.args.mask c.in-Unsigned.is
