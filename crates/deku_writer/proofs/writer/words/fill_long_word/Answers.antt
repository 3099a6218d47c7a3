use Rattle.std.proofs.Common.{◌≡◌, ◌⊎◌, inl, ◌+◌, ◌/◌, ◌∙◌, length, take, ap, arith, rules}
use Rattle.deku_writer.specs.Pushing.{low_bytes}
use Rattle.deku_writer.proofs.Joined.{fills_whole, long_first, first_low}
use Rattle.deku_writer.proofs.Filling.{word_behind}
use Rattle.deku_writer.proofs.writer.words.fill_long_word.Goals as goal

pub returns-then-n-eq0 : goal.returns-then-n-eq0
returns-then-n-eq0 c =
    let h = c.args.held in
    let none : length h ≡ 0 = search rules in
    let count : (length h + c.args.n) / 8 ≡ c.args.n / 8 = omega (arith, none) in
    let bytes : take (c.args.n / 8) c.to_le_bytes.result ≡ low_bytes (c.args.n / 8) c.args.word =
    ap (take (c.args.n / 8)) (c.to_le_bytes.ensures ∙ long_first c.args.word) ∙ first_low 16 (c.args.n / 8) c.args.word (omega (arith, c.requires.most)) in
    record {
      fills = rw (count, bytes) (word_behind c.args.from c.args.to h h c.args.n c.args.word (low_bytes (c.args.n / 8) c.args.word) (inl none) c.requires.some
          (fills_whole c.args.to h c.args.n c.args.word none (search rules)));
    }

pub returns-then-is_behind : goal.returns-then-is_behind
returns-then-is_behind c =
    let behind : (length c.args.held ≡ 0) ⊎ (c.args.from ≡ c.args.to) = search rules in
    record { fills = word_behind c.args.from c.args.to c.args.held _ c.args.n c.args.word _ behind c.requires.some c.fill_word.ensures.fills }

pub fill_word-requires-clause-some : goal.fill_word-requires-clause-some
fill_word-requires-clause-some c = search rules

pub fill_word-requires-clause-short : goal.fill_word-requires-clause-short
fill_word-requires-clause-short c = search rules

pub fill_word-requires-clause-most : goal.fill_word-requires-clause-most
fill_word-requires-clause-most c = search rules

pub fill_word-requires-clause-inside : goal.fill_word-requires-clause-inside
fill_word-requires-clause-inside c = search rules

pub slice_bounds-fill_other-end : goal.slice_bounds-fill_other-end
slice_bounds-fill_other-end c = search rules

pub fill_other-requires-clause-some : goal.fill_other-requires-clause-some
fill_other-requires-clause-some c = search rules

pub fill_other-requires-clause-short : goal.fill_other-requires-clause-short
fill_other-requires-clause-short c = search rules

pub fill_other-requires-clause-most : goal.fill_other-requires-clause-most
fill_other-requires-clause-most c = search rules

pub fill_other-requires-clause-inside : goal.fill_other-requires-clause-inside
fill_other-requires-clause-inside c = search rules

pub fill_other-requires-clause-room : goal.fill_other-requires-clause-room
fill_other-requires-clause-room c = search rules

pub returns : goal.returns
returns c = search rules
