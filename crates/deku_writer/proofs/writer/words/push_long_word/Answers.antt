use Rattle.std.proofs.Common.{◌≡◌, ◌+◌, ◌%◌, ◌∙◌, length, ap, arith, rules}
use Rattle.deku_writer.proofs.Filling.{onto_rest}
use Rattle.deku_writer.proofs.WordsWritten.{length-shown_word}
use Rattle.deku_writer.proofs.writer.words.push_long_word.Goals as goal

pub follow-requires : goal.follow-requires
follow-requires g c =
    let fills = rw c.copy.ensures at c.fill_long_word-next.ensures.fills in
    let left : length c.fill_long_word-next.result.1 ≡ (length c.args.held.now + c.args.n) % 8 =
    onto_rest c.args.from c.args.to c.args.held.now c.fill_long_word-next.result.1 _ _ c.requires.short fills
    ∙ ap (λ k. (length c.args.held.now + k) % 8) (length-shown_word c.args.to c.args.n c.args.word) in
    omega (arith, left, c.len-2.ensures.length)

pub returns-clause-pushed : goal.returns-clause-pushed
returns-clause-pushed g c = search rules

pub returns-clause-fault : goal.returns-clause-fault
returns-clause-fault g c = search rules
