use Rattle.deku_c.proofs.Reading.{other_coded}
use Rattle.deku_c.proofs.read.cut_other.Goals as goal

pub returns : goal.returns
returns c = other_coded c.args.code c.field.result c.in_ok-number.number c.of.result c.args.bytes.now c.args.bit c.in_ok-number.after c.field.ensures c.in_ok-number.ensures.reads c.of.ensures
