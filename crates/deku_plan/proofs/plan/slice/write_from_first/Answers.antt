use Rattle.std.proofs.Common.{rules, refl, ap}
use Rattle.deku_bits.specs.Cursors.{slice_whole}
use Rattle.std.proofs.lemmas.Result.{err_from_is_err_and}
use Rattle.deku_bits.proofs.Handing.{unbroken, name_stays}
use Rattle.deku.proofs.Containers.{starts_over, padded_from, refused_over, steady, tells_over}
use Rattle.deku_fields.specs.ListCalls.{WritesItems}
use Rattle.deku_plan.specs.Plans.{items}
use Rattle.deku_plan.specs.Records.{records}
use Rattle.deku_plan.proofs.plan.slice.write_from_first.Goals as goal

pub returns : goal.returns
returns c =
    let begin = starts_over _ _ c.args.out.now (tells_over c.new-cursor.result).health _ c.new-cursor.ensures.position (ap (λ r. r.now) c.new-cursor.ensures.inner) refl in
    let w = padded_from (WritesItems (items (records c.args.count c.args.fields.now) c.args.values.now)) _ _ (tells_over c.write_whole-written.new.sink) c.in_ok-written.ensures.0 begin (unbroken refl refl c.in_ok-written.ensures.1) in
    let same = name_stays (steady (slice_whole c.new-cursor.result)) (steady (slice_whole c.write_whole-written.new.sink)) _ _ c.in_ok-written.ensures.1 in
    let tie = c.out-1.given.1.1 (search (rules, same)) in
    rw (tie, c.position-taken.ensures) w

pub returns-in_err-written : goal.returns-in_err-written
returns-in_err-written c =
    let begin = starts_over _ _ c.args.out.now (tells_over c.new-cursor.result).health _ c.new-cursor.ensures.position (ap (λ r. r.now) c.new-cursor.ensures.inner) refl in
    let w = refused_over (WritesItems (items (records c.args.count c.args.fields.now) c.args.values.now)) _ c.args.out.now c.in_err-written.field-0.0 c.write_whole-written.new.sink _ begin (unbroken refl refl c.in_err-written.ensures.1) in
    let same = name_stays (steady (slice_whole c.new-cursor.result)) (steady (slice_whole c.write_whole-written.new.sink)) _ _ c.in_err-written.ensures.1 in
    let tie = c.out-1.given.1.1 (search (rules, same)) in
    let k = err_from_is_err_and c.from_residual.result c.from_residual.ensures.1 in
    rw (k.1, k.2, tie) w
