use Rattle.std.proofs.lemmas.Grind.{common_steps}
use Rattle.std.proofs.Common.{◌≡◌, ◌<◌, ◌≤◌, ◌*◌, ◌∙◌, length, arith, rules}
use Rattle.deku_writer.proofs.Fills.{Fills-nil, Fills-short}
use Rattle.deku_writer.proofs.LongWords.{seven_more, rest_seven}
use Rattle.deku_writer.proofs.writer.words.shift_word.Goals as goal

pub loop-i-init : goal.loop-i-init
loop-i-init c = record { fills = Fills-nil c.args.order c.args.held.now c.requires.short; rest = omega arith }

pub loop-i-preserved : goal.loop-i-preserved
loop-i-preserved c =
    let short : length c.loop-i.held < 8 = Fills-short c.loop-i.invariant.fills in
    let seven : c.fill.result.1 ≡ 7 = c.fill.ensures.count ∙ omega (arith, short) in
    let long : length c.copy_from_slice.new.self ≡ 7 = search rules in
    let room : 7 * c.loop-i.i ≤ length c.loop-i.out = search rules in
    record {
      fills = seven_more c.args.order c.args.held.now c.loop-i.held c.fill.new.self c.loop-i.out c.copy_from_slice.new.self _ c.loop-i.i c.args.word c.loop-i.rest room long
          c.loop-i.invariant.rest c.loop-i.invariant.fills (rw (c.copy_from_slice.ensures.after, ← seven) c.fill.ensures.fills);
      rest = rest_seven c.args.word c.loop-i.rest c.loop-i.i c.loop-i.invariant.rest;
    }

pub nonzero_rem-rest : goal.nonzero_rem-rest
nonzero_rem-rest c = search rules

pub overflow_cast-rest : goal.overflow_cast-rest
overflow_cast-rest c = search rules

pub fill-requires-clause-some : goal.fill-requires-clause-some
fill-requires-clause-some c = search rules

pub fill-requires-clause-most : goal.fill-requires-clause-most
fill-requires-clause-most c = grind (arith, common_steps)

pub fill-requires-clause-inside : goal.fill-requires-clause-inside
fill-requires-clause-inside c = search rules

pub overflow_mul-i : goal.overflow_mul-i
overflow_mul-i c = search rules

pub overflow_mul-i-in-loop-i : goal.overflow_mul-i-in-loop-i
overflow_mul-i-in-loop-i c = search rules

pub overflow_add-i : goal.overflow_add-i
overflow_add-i c = search rules

pub slice_bounds-copy_from_slice-count : goal.slice_bounds-copy_from_slice-count
slice_bounds-copy_from_slice-count c = search rules

pub slice_bounds-copy_from_slice-start : goal.slice_bounds-copy_from_slice-start
slice_bounds-copy_from_slice-start c = search rules

pub slice_bounds-copy_from_slice-end : goal.slice_bounds-copy_from_slice-end
slice_bounds-copy_from_slice-end c = search rules

pub slice_bounds-eight-end : goal.slice_bounds-eight-end
slice_bounds-eight-end c = search rules

pub slice_bounds-copy_from_slice-end-in-loop-i : goal.slice_bounds-copy_from_slice-end-in-loop-i
slice_bounds-copy_from_slice-end-in-loop-i c = search rules

pub returns-clause-fills : goal.returns-clause-fills
returns-clause-fills c = search rules

pub returns-clause-rest : goal.returns-clause-rest
returns-clause-rest c = search rules
