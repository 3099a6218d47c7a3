use Rattle.std.proofs.Common.{◌≡◌, ◌++◌, ◌∷◌, [], List, arith, refl, ap, ◌∙◌, subst, take}
use Rattle.std.proofs.lemmas.List.{take_all}
use Rattle.std.specs.Prelude.{string_bytes}
use Rattle.deku_fields.specs.Naming.{NamesItem}
use Rattle.deku_fields.specs.Runs.{AreItems}
use Rattle.deku_program.specs.Texts.{words_of}
use Rattle.deku_fields.specs.declared.list.Item.{Item}
use Rattle.deku_fields.proofs.NamedItems.{none_is}
use Rattle.deku_fields.proofs.Runs.{one_more, no_list}
use Rattle.deku_fields.proofs.program.are_items.Goals as goal

pub returns-in_default : goal.returns-in_default
returns-in_default c =
    let texts = c.args.specs.now in
    let none : AreItems (words_of texts) → ⊥ = λ are.
    no_list NamesItem texts c.loop-word.word-index _ c.as_str.result.now (omega arith) (c.as_str.ensures.value ∙ ap string_bytes c.word-item.is) (λ i n. none_is ((c.in_default.ensures i).1 n)) are.0 are.1 in
    (λ t. absurd (cc), λ are. absurd (none are))

pub loop-word-preserved : goal.loop-word-preserved
loop-word-preserved c =
    let texts = c.args.specs.now in
    let before : List Item = c.loop-word.invariant.0 in
    let one : Item = c.in-Some.field-0 in
    (before ++ one ∷ [], one_more NamesItem texts c.loop-word.word-index _ c.as_str.result.now before one (omega arith) (c.as_str.ensures.value ∙ ap string_bytes c.word-item.is) c.loop-word.invariant.1 ((c.in-Some.ensures one).0 refl))

pub returns : goal.returns
returns c =
    let all : take c.loop-word.word-index c.args.specs.now ≡ c.args.specs.now = take_all c.loop-word.word-index c.args.specs.now (omega arith) in
    let are : AreItems (words_of c.args.specs.now) = subst (λ xs. AreItems (words_of xs)) all c.loop-word.invariant in
    (λ t. are, λ h. refl)
