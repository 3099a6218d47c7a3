use Rattle.std.proofs.Common.{◌≡◌, ◌≤◌, ◌∙◌, length, ap, arith, rules}
use Rattle.std.specs.Io.Cursor.{cursor_inner}
use Rattle.deku_stream.specs.Bits.{shown}
use Rattle.deku_writer.specs.Pushing.{word_bits}
use Rattle.deku_writer.proofs.Filling.{filled_room, same_room, room_enough}
use Rattle.deku_writer.proofs.WordsWritten.{length-shown_word}
use Rattle.deku_writer.proofs.writer.words.fill_other.Goals as goal

pub returns-clause-fills : goal.returns-clause-fills
returns-clause-fills c =
    let begins = c.new-room.ensures.position in
    let same = same_room c.new-room.result c.push_onto.new.sink begins _ c.in-Ok.ensures.pushed.gave in
    let tie = c.out-1.given.1.1 (search (rules, same)) in
    let bits : c.show.new.bits ≡ shown c.args.to (word_bits c.args.to c.args.n c.args.word) = search (rules, c.show.ensures, c.bits_of_word.ensures) in
    rw (← bits)
    (filled_room c.new-room.result c.push_onto.new.sink begins c.args.from c.args.to c.args.held.now c.push_onto.new.held c.show.new.bits c.args.n _ c.requires.short
    (ap length bits ∙ length-shown_word c.args.to c.args.n c.args.word) tie c.in-Ok.ensures.pushed)

pub unreachable-requires : goal.unreachable-requires
unreachable-requires c =
    let bits : c.show.new.bits ≡ shown c.args.to (word_bits c.args.to c.args.n c.args.word) = search (rules, c.show.ensures, c.bits_of_word.ensures) in
    let long : length c.show.new.bits ≡ c.args.n = ap length bits ∙ length-shown_word c.args.to c.args.n c.args.word in
    let room : 16 ≤ length (cursor_inner c.new-room.result).now = search rules in
    room_enough c.new-room.result c.push_onto.new.sink c.args.from c.args.to c.args.held.now c.show.new.bits c.in-Err.field-0 c.new-room.ensures.position c.requires.short
    (omega (arith, long, room, c.requires.most, c.requires.short)) c.in-Err.ensures.fault

pub bits_of_word-requires-clause-most : goal.bits_of_word-requires-clause-most
bits_of_word-requires-clause-most c = search rules

pub bits_of_word-requires-clause-inside : goal.bits_of_word-requires-clause-inside
bits_of_word-requires-clause-inside c = search rules

pub slice_bounds-bits-end : goal.slice_bounds-bits-end
slice_bounds-bits-end c = search rules

pub slice_bounds-bits-end-2 : goal.slice_bounds-bits-end-2
slice_bounds-bits-end-2 c = search rules

pub push_onto-requires-clause-short : goal.push_onto-requires-clause-short
push_onto-requires-clause-short c = search rules

pub push_onto-requires-clause-some : goal.push_onto-requires-clause-some
push_onto-requires-clause-some c = search rules
