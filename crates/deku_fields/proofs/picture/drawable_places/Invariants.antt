use Rattle.deku_fields.proofs.Drawing.{IsDrawn}
use Rattle.deku_fields.proofs.picture.drawable_places.Given as goal

abbrev pub invariant-loop-field : goal.invariant-loop-field
invariant-loop-field l = IsDrawn l.fields l.field-index l.bits l.order
