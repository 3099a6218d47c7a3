use Rattle.std.proofs.lemmas.Grind.{common_steps}
use Rattle.std.proofs.Common.{◌≡◌, ◌<◌, ◌≤◌, ◌*◌, ◌-◌, ◌/◌, ◌^◌, length, arith, rules}
use Rattle.deku_writer.proofs.Joined.{fits_word}
use Rattle.deku_writer.proofs.LongWords.{rest_below, word_ended, parts_count}
use Rattle.deku_writer.proofs.writer.words.fill_word.Goals as goal

pub overflow_cast-rest : goal.overflow_cast-rest
overflow_cast-rest c =
    let p = (c.args.n - 1) / 56 in
    let b = rest_below c.args.order c.args.n c.args.word p c.shift_word-rest.result c.requires.inside (omega (arith, c.requires.some)) c.shift_word-rest.ensures.rest in
    let k : c.shift_word-rest.result < 2 ^ 64 = fits_word c.shift_word-rest.result (c.args.n - 56 * p) b (omega (arith, c.requires.some)) in
    search rules

pub fill-count-requires-clause-inside : goal.fill-count-requires-clause-inside
fill-count-requires-clause-inside c =
    rest_below c.args.order c.args.n c.args.word ((c.args.n - 1) / 56) c.shift_word-rest.result c.requires.inside (omega (arith, c.requires.some)) c.shift_word-rest.ensures.rest

pub returns : goal.returns
returns c =
    let p = (c.args.n - 1) / 56 in
    let long : length c.copy_from_slice.new.self ≡ c.fill-count.result.1 = search rules in
    let room : 7 * ((c.args.n - 1) / 56) ≤ length c.shift_word-rest.new.out = search rules in
    let filled =
    word_ended c.args.order c.args.n c.args.word p c.shift_word-rest.result c.requires.inside (omega (arith, c.requires.some)) c.shift_word-rest.ensures.rest
    c.args.held.now c.shift_word-rest.new.held c.fill-count.new.self c.shift_word-rest.new.out c.copy_from_slice.new.self _ c.fill-count.result.1 room long
    c.shift_word-rest.ensures.fills (rw c.copy_from_slice.ensures.after c.fill-count.ensures.fills) in
    let count = parts_count c.args.order c.args.held.now c.shift_word-rest.new.held c.args.n p c.args.word c.fill-count.result.1 _ c.requires.short (omega (arith, c.requires.some))
    c.shift_word-rest.ensures.fills c.fill-count.ensures.count in
    record { fills = rw (← count) filled }

pub overflow_sub-parts : goal.overflow_sub-parts
overflow_sub-parts c = search rules

pub shift_word-rest-requires-clause-short : goal.shift_word-rest-requires-clause-short
shift_word-rest-requires-clause-short c = search rules

pub shift_word-rest-requires-clause-room : goal.shift_word-rest-requires-clause-room
shift_word-rest-requires-clause-room c = search rules

pub overflow_mul-parts : goal.overflow_mul-parts
overflow_mul-parts c = search rules

pub overflow_sub-n : goal.overflow_sub-n
overflow_sub-n c = search rules

pub fill-count-requires-clause-some : goal.fill-count-requires-clause-some
fill-count-requires-clause-some c = search rules

pub fill-count-requires-clause-most : goal.fill-count-requires-clause-most
fill-count-requires-clause-most c = grind (arith, common_steps)

pub overflow_mul-parts-2 : goal.overflow_mul-parts-2
overflow_mul-parts-2 c = search rules

pub overflow_mul-parts-3 : goal.overflow_mul-parts-3
overflow_mul-parts-3 c = search rules

pub overflow_add-parts : goal.overflow_add-parts
overflow_add-parts c = grind (arith, common_steps)

pub slice_bounds-copy_from_slice-count : goal.slice_bounds-copy_from_slice-count
slice_bounds-copy_from_slice-count c = search rules

pub slice_bounds-copy_from_slice-start : goal.slice_bounds-copy_from_slice-start
slice_bounds-copy_from_slice-start c = search rules

pub slice_bounds-copy_from_slice-end : goal.slice_bounds-copy_from_slice-end
slice_bounds-copy_from_slice-end c = grind (arith, common_steps)

pub slice_bounds-eight-end : goal.slice_bounds-eight-end
slice_bounds-eight-end c = grind (arith, common_steps)

pub slice_bounds-copy_from_slice-end-2 : goal.slice_bounds-copy_from_slice-end-2
slice_bounds-copy_from_slice-end-2 c = grind (arith, common_steps)
