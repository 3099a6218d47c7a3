use Rattle.std.proofs.Common.{refl, inl, inr, arith}
use Rattle.deku_fields.proofs.Drawing.{drawn_none, drawn_some, drawn_last, same, different}
use Rattle.deku_fields.proofs.picture.drawable_places.Goals as goal
use Rattle.deku_fields.proofs.picture.drawable_places.Goals.{then-width-gt0+else-bits-ne0, else-bits-ne0-via-then-bits-ne0+else-ne, else-bits-ne0-via-else-bits-ne0, else-width-gt0}

pub returns-then-ne-clause-refused : goal.returns-then-ne-clause-refused
returns-then-ne-clause-refused c =
    let seen = c.in_ok-width.ensures in
    inl (drawn_last c.args.fields.now c.loop-field.field-index _ c.loop-field.bits c.in_ok-width.width c.loop-field.order _ (omega arith) c.loop-field.invariant
    (record { wide = seen.width; few = seen.few; allowed = seen.allowed }) c.if-width-gt0.true c.if-bits-ne0.true (different _ _ c.if-ne.ensures) refl)

pub loop-field-preserved : goal.loop-field-preserved
loop-field-preserved c = let seen = c.in_ok-width.ensures in elim c.if-width-gt0.branch [
  | then-width-gt0+else-bits-ne0 w ↦ elim w.else-bits-ne0.branch [
    | else-bits-ne0-via-then-bits-ne0+else-ne x ↦
        drawn_some c.args.fields.now c.loop-field.field-index _ c.loop-field.bits c.in_ok-width.width c.loop-field.order _ (omega arith) c.loop-field.invariant
        (record { wide = seen.width; few = seen.few; allowed = seen.allowed }) w.if-width-gt0.true (inr (same _ _ x.if-ne.ensures)) w.order-is
    | else-bits-ne0-via-else-bits-ne0 x ↦
        drawn_some c.args.fields.now c.loop-field.field-index _ c.loop-field.bits c.in_ok-width.width c.loop-field.order _ (omega arith) c.loop-field.invariant
        (record { wide = seen.width; few = seen.few; allowed = seen.allowed }) w.if-width-gt0.true (inl x.if-bits-ne0.false) w.order-is
  ]
  | else-width-gt0 w ↦
      drawn_none c.args.fields.now c.loop-field.field-index _ c.loop-field.bits c.in_ok-width.width c.loop-field.order _ (omega arith) c.loop-field.invariant
      (record { wide = seen.width; few = seen.few; allowed = seen.allowed }) w.if-width-gt0.false w.order-is
]
