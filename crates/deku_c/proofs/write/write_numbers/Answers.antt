use Rattle.std.proofs.Common.{rules, refl, ap}
use Rattle.std.proofs.lemmas.Result.{err_from_is_err_and}
use Rattle.deku_bits.specs.Cursors.{slice_whole}
use Rattle.deku_bits.proofs.Handing.{unbroken, name_stays}
use Rattle.deku.proofs.Containers.{starts_over, padded_from, refused_over, steady, tells_over}
use Rattle.deku_fields.specs.ListCalls.{WritesItems}
use Rattle.deku_c.specs.Codes.{items_in}
use Rattle.deku_c.proofs.Writing.{laid_over}
use Rattle.deku_c.proofs.write.write_numbers.Goals as goal

pub returns-clause-meaning : goal.returns-clause-meaning
returns-clause-meaning c =
    let items = items_in c.args.codes.now c.args.numbers.now in
    let begin = starts_over _ _ c.args.out.now (tells_over c.new-cursor.result).health _ c.new-cursor.ensures.position (ap (λ r. r.now) c.new-cursor.ensures.inner) refl in
    let w = padded_from (WritesItems items) _ _ (tells_over c.write_whole-written.new.sink) c.in_ok-written.ensures.0 begin (unbroken refl refl c.in_ok-written.ensures.1) in
    let same = name_stays (steady (slice_whole c.new-cursor.result)) (steady (slice_whole c.write_whole-written.new.sink)) _ _ c.in_ok-written.ensures.1 in
    let tie = c.out-1.given.1.1 (search (rules, same)) in
    rw (tie, c.position-count.ensures) w

pub returns-in_err-written-clause-meaning : goal.returns-in_err-written-clause-meaning
returns-in_err-written-clause-meaning c =
    let items = items_in c.args.codes.now c.args.numbers.now in
    let begin = starts_over _ _ c.args.out.now (tells_over c.new-cursor.result).health _ c.new-cursor.ensures.position (ap (λ r. r.now) c.new-cursor.ensures.inner) refl in
    let w = refused_over (WritesItems items) _ c.args.out.now c.in_err-written.field-0.0 c.write_whole-written.new.sink _ begin (unbroken refl refl c.in_err-written.ensures.1) in
    let same = name_stays (steady (slice_whole c.new-cursor.result)) (steady (slice_whole c.write_whole-written.new.sink)) _ _ c.in_err-written.ensures.1 in
    let tie = c.out-1.given.1.1 (search (rules, same)) in
    let k = err_from_is_err_and c.from_residual.result c.from_residual.ensures.1 in
    rw (k.1, k.2, tie) w

pub returns-clause-laid : goal.returns-clause-laid
returns-clause-laid c = laid_over c.padded_law.ensures (items_in c.args.codes.now c.args.numbers.now) c.args.out.now _ _ (returns-clause-meaning c)

pub returns-in_err-written-clause-laid : goal.returns-in_err-written-clause-laid
returns-in_err-written-clause-laid c = laid_over c.padded_law.ensures (items_in c.args.codes.now c.args.numbers.now) c.args.out.now _ _ (returns-in_err-written-clause-meaning c)
