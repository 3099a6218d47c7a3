use Rattle.std.proofs.Common.{arith}
use Rattle.deku_fields.proofs.Marking.{fields_marked}
use Rattle.deku_fields.proofs.picture.mark_fields.Goals as goal

pub returns : goal.returns
returns c = fields_marked c.args.fields.now c.loop-index.index c.loop-index.cells (omega arith) c.loop-index.invariant.2
