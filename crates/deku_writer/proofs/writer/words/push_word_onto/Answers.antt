use Rattle.std.proofs.Common.{◌≡◌, ◌⊎◌, inl, length, rules}
use Rattle.std.proofs.lemmas.Result.{on_ok_weaker, IfErr-weaker}
use Rattle.deku_writer.proofs.Filling.{word_behind, onto_given, onto_declined}
use Rattle.deku_writer.proofs.Joined.{fills_whole}
use Rattle.deku_writer.proofs.writer.words.push_word_onto.Goals as goal

pub returns-then-lay_whole-clause-pushed : goal.returns-then-lay_whole-clause-pushed
returns-then-lay_whole-clause-pushed g c =
    let h = c.args.held.now in
    let none : length h ≡ 0 = search rules in
    let fills = word_behind c.args.from c.args.to h h c.args.n c.args.word _ (inl none) c.requires.some (fills_whole c.args.to h c.args.n c.args.word none (search rules)) in
    onto_given _ _ c.args.from c.args.to h h _ _ fills (search (rules, c.lay_whole.ensures.gave))

pub returns-then-n-gt64-clause-pushed : goal.returns-then-n-gt64-clause-pushed
returns-then-n-gt64-clause-pushed g c =
    let h = c.args.held.now in
    let none : length h ≡ 0 = search rules in
    let fills = word_behind c.args.from c.args.to h h c.args.n c.args.word _ (inl none) c.requires.some (fills_whole c.args.to h c.args.n c.args.word none (search rules)) in
    on_ok_weaker c.give_whole.result (λ gave. onto_given _ _ c.args.from c.args.to h h _ _ fills gave) c.give_whole.ensures.gave

pub returns-then-n-gt64-clause-fault : goal.returns-then-n-gt64-clause-fault
returns-then-n-gt64-clause-fault g c =
    let none : length c.args.held.now ≡ 0 = search rules in
    let h = c.args.held.now in
    let fills = word_behind c.args.from c.args.to h h c.args.n c.args.word _ (inl none) c.requires.some (fills_whole c.args.to h c.args.n c.args.word none (search rules)) in
    IfErr-weaker c.give_whole.result _ _ (λ k f. onto_declined _ _ c.args.from c.args.to h h _ _ k fills f) c.give_whole.ensures.fault

pub returns-then-try_put-clause-pushed : goal.returns-then-try_put-clause-pushed
returns-then-try_put-clause-pushed g c =
    let behind : (length c.args.held.now ≡ 0) ⊎ (c.args.from ≡ c.args.to) = search rules in
    let filled = rw c.copy-next.ensures at c.fill-count.ensures.fills in
    let fills = word_behind c.args.from c.args.to c.args.held.now c.fill-count.new.self c.args.n c.args.word _ behind c.requires.some filled in
    rw c.follow.ensures (onto_given _ _ c.args.from c.args.to c.args.held.now c.fill-count.new.self _ _ fills (search (rules, c.try_put.ensures.gave)))

pub follow-requires : goal.follow-requires
follow-requires g c = search rules
