use Rattle.std.proofs.Common.{◌∙◌, ◌<◌, length, refl, arith}
use Rattle.std.proofs.lemmas.List.{length-set}
use Rattle.deku_c.proofs.Reading.{none_read, one_cut, all_cut}
use Rattle.deku_c.proofs.read.cut_each.Goals as goal
use Rattle.deku_c.proofs.read.cut_each.Goals.{in-Some, in_default+in_ok-number}

pub loop-place-init : goal.loop-place-init
loop-place-init c = (refl, none_read c.args.codes.now c.args.numbers.now _ _)

pub loop-place-preserved : goal.loop-place-preserved
loop-place-preserved c =
    let before = c.loop-place.invariant in
    let room : c.loop-place.place < length c.loop-place.numbers = omega (arith, before.0, c.requires) in
    elim c.match-cut_high.branch [
      | in-Some w ↦ rw (w.numbers-is, w.bit-is) (
        length-set c.loop-place.numbers c.loop-place.place _ ∙ before.0,
        one_cut c.read_calls_law.ensures c.args.codes.now c.loop-place.numbers c.loop-place.place _ _ c.args.bytes.now c.loop-place.bit w.in-Some.after (omega arith) room before.1 w.in-Some.ensures,
      )
      | in_default+in_ok-number w ↦ rw (w.numbers-is, w.bit-is) (
        length-set c.loop-place.numbers c.loop-place.place w.in_ok-number.number ∙ before.0,
        one_cut c.read_calls_law.ensures c.args.codes.now c.loop-place.numbers c.loop-place.place _ w.in_ok-number.number c.args.bytes.now c.loop-place.bit w.in_ok-number.after (omega arith) room before.1 w.in_ok-number.ensures,
      )
    ]

pub returns-clause-reads : goal.returns-clause-reads
returns-clause-reads c = all_cut c.args.codes.now c.loop-place.numbers c.loop-place.place c.args.bytes.now c.loop-place.bit (omega arith) (omega (arith, c.loop-place.invariant.0, c.requires)) c.loop-place.invariant.1
