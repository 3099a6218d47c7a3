use Rattle.deku_c.specs.Codes.{field_in}
use Rattle.deku_c.proofs.Reading.{high_coded}
use Rattle.deku_c.proofs.read.cut_high.Goals as goal

pub returns : goal.returns
returns c =
    let width = c.in_ok-width.ensures in
    high_coded c.args.code c.in_ok-low.low c.args.bytes.now c.args.bit c.in_ok-low.after width.high (c.in_ok-low.ensures.reads (field_in c.args.code) width.high width.allowed width.wide)
