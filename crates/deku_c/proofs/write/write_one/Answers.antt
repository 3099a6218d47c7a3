use Rattle.deku.proofs.Joining.{then_on, answered}
use Rattle.deku_c.proofs.write.write_one.Goals as goal

pub returns-then-laid_high : goal.returns-then-laid_high
returns-then-laid_high g c = then_on (c.laid_high.ensures.writes c.if-laid_high.true) answered

pub returns : goal.returns
returns g c =
    let same = c.laid_high.ensures.stays c.if-laid_high.false in
    rw (c.item.ensures, same) at c.write_list.ensures.meaning
