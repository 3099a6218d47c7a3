use Rattle.std.proofs.Common.{ℕ, ◌+◌, ◌*◌, ◌≤◌, All, get_or, length, ap, sym, ◌∙◌, subst, arith}
use Rattle.std.proofs.lemmas.List.{take_all}
use Rattle.deku_plan.specs.Laying.{turns, AreFitting, row_bits}
use Rattle.deku_plan.specs.Blocks.{words_bits}
use Rattle.deku_plan.proofs.Blocks.{no_words, sizes_few, records_room, rows_words}
use Rattle.deku_plan.proofs.block.laid_at_once.Goals as goal

pub join_fields-requires-clause-none : goal.join_fields-requires-clause-none
join_fields-requires-clause-none c = λ j. no_words 64 j

pub store_records-requires-clause-sizes : goal.store_records-requires-clause-sizes
store_records-requires-clause-sizes c = subst (All (λ n. n ≤ 8)) (sym c.requires.sizes) (sizes_few 0 c.args.steps.now c.args.parts.now c.requires.parts)

pub store_records-requires-clause-room : goal.store_records-requires-clause-room
store_records-requires-clause-room c = rw (c.requires.sizes) (records_room c.args.count c.args.steps.now c.args.parts.now (length c.args.out.now) c.requires.parts c.requires.whole)

pub returns-clause-bits : goal.returns-clause-bits
returns-clause-bits c = λ _.
    let ss = c.args.steps.now in
    let ps = c.args.parts.now in
    let ns = c.args.values.now in
    let count = c.args.count in
    let words : ℕ → ℕ → ℕ = λ r k. get_or c.join_fields.new.words (k * count + r) 0 in
    let fits : AreFitting (turns count ss) ns = c.join_fields.ensures.fitting (omega arith) in
    c.store_records.ensures.bits
    ∙ ap (λ bs. words_bits count bs words) c.requires.sizes
    ∙ rows_words count count ss ps ns words (omega arith) c.requires.parts c.requires.values fits (λ r k below. c.join_fields.ensures.words (omega arith) r k below)
    ∙ ap (row_bits (turns count ss)) (take_all (count * length ss) ns (omega (arith, c.requires.values)))
