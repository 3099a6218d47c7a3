-- The width is that of the field, whose bits are within the bytes of all fields.
use Rattle.std.proofs.Common.{◌+◌, sym, ◌∙◌, arith}
use Rattle.std.proofs.lemmas.List.Elements.{All-get_or}
use Rattle.deku_fields.specs.Items.{IsAllowedField}
use Rattle.deku_fields.proofs.Marking.{asked_width, is_next, place_within, bit_marked, field_marked}
use Rattle.deku_fields.proofs.picture.mark_field.Goals as goal

pub overflow_add-at : goal.overflow_add-at
overflow_add-at c =
    let allowed = All-get_or IsAllowedField c.args.fields.now c.args.index _ c.requires.within c.requires.allowed in
    let next = is_next c.args.fields.now c.args.index _ c.args.at c.unwrap_or-width.result c.requires.within c.requires.met
    (asked_width _ _ _ _ c.number_type.ensures c.allowed_width.ensures.allowed c.allowed_width.ensures.width c.unwrap_or-width.ensures allowed) in
    omega (arith, next.within)

pub bounds-cells-printed_place : goal.bounds-cells-printed_place
bounds-cells-printed_place c =
    let allowed = All-get_or IsAllowedField c.args.fields.now c.args.index _ c.requires.within c.requires.allowed in
    let next = is_next c.args.fields.now c.args.index _ c.args.at c.unwrap_or-width.result c.requires.within c.requires.met
    (asked_width _ _ _ _ c.number_type.ensures c.allowed_width.ensures.allowed c.allowed_width.ensures.width c.unwrap_or-width.ensures allowed) in
    place_within _ (c.args.at + c.loop-i.i) _ _ _ c.printed_place.ensures (c.loop-i.auto.cells ∙ c.requires.room) (omega (arith, next.within))

pub offset_bounds-cells-printed_place : goal.offset_bounds-cells-printed_place
offset_bounds-cells-printed_place c = omega (arith, bounds-cells-printed_place c)

pub loop-i-preserved : goal.loop-i-preserved
loop-i-preserved c =
    let allowed = All-get_or IsAllowedField c.args.fields.now c.args.index _ c.requires.within c.requires.allowed in
    let wide = asked_width _ _ _ _ c.number_type.ensures c.allowed_width.ensures.allowed c.allowed_width.ensures.width c.unwrap_or-width.ensures allowed in
    bit_marked c.args.fields.now c.args.index c.loop-i.i c.args.at c.unwrap_or-width.result c.printed_place.result c.bit_place-bit.result _ c.loop-i.cells
    c.requires.within c.requires.met wide c.loop-i-test.true c.printed_place.ensures c.bit_place-bit.ensures (bounds-cells-printed_place c) c.loop-i.invariant

pub overflow_add-result : goal.overflow_add-result
overflow_add-result c =
    let allowed = All-get_or IsAllowedField c.args.fields.now c.args.index _ c.requires.within c.requires.allowed in
    let next = is_next c.args.fields.now c.args.index _ c.args.at c.unwrap_or-width.result c.requires.within c.requires.met
    (asked_width _ _ _ _ c.number_type.ensures c.allowed_width.ensures.allowed c.allowed_width.ensures.width c.unwrap_or-width.ensures allowed) in
    omega (arith, next.within)

pub returns-clause-met : goal.returns-clause-met
returns-clause-met c =
    let allowed = All-get_or IsAllowedField c.args.fields.now c.args.index _ c.requires.within c.requires.allowed in
    let next = is_next c.args.fields.now c.args.index _ c.args.at c.unwrap_or-width.result c.requires.within c.requires.met
    (asked_width _ _ _ _ c.number_type.ensures c.allowed_width.ensures.allowed c.allowed_width.ensures.width c.unwrap_or-width.ensures allowed) in
    next.next

pub returns-clause-marked : goal.returns-clause-marked
returns-clause-marked c =
    let allowed = All-get_or IsAllowedField c.args.fields.now c.args.index _ c.requires.within c.requires.allowed in
    let wide = asked_width _ _ _ _ c.number_type.ensures c.allowed_width.ensures.allowed c.allowed_width.ensures.width c.unwrap_or-width.ensures allowed in
    field_marked c.args.fields.now c.args.index c.loop-i.i _ c.loop-i.cells c.requires.within (sym (omega arith) ∙ wide) c.loop-i.invariant
