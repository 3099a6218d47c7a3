use Rattle.std.proofs.Common.{◌≡◌, false, pos, sym, ap, ◌∙◌, rules}
use Rattle.deku_num.specs.Numbers.{IsAllowed, IsWordFor}
use Rattle.deku_fields.specs.Items.{number_type}
use Rattle.deku_fields.specs.declared.list.Number.TheVariants.{Unsigned}
use Rattle.deku_fields.proofs.Plain.{kind_of_word}
use Rattle.deku_fields.proofs.write.plain_word.Goals as goal

pub returns-clause-kind : goal.returns-clause-kind
returns-clause-kind c =
    let is : c.args.item.now.value ≡ Unsigned c.in-Unsigned.value = search rules in
    let plain : (number_type c.args.item.now.field.kind).signed ≡ false = ap (λ t. t.signed) (sym c.number_type-number_type.ensures) ∙ c.if-number_type.false in
    let allowed : IsAllowed (number_type c.args.item.now.field.kind) c.args.item.now.field.layout = search rules in
    let word : IsWordFor (number_type c.args.item.now.field.kind) c.args.item.now.field.layout (pos c.in-Unsigned.value) c.in_ok-word.word = rw c.number_type-number_type.ensures at c.in_ok-word.ensures.word in
    kind_of_word c.args.item.now is plain allowed word

pub returns-then-number_type-clause-kind : goal.returns-then-number_type-clause-kind
returns-then-number_type-clause-kind c = search rules

pub returns-then-number_type-clause-allowed : goal.returns-then-number_type-clause-allowed
returns-then-number_type-clause-allowed c = search rules

pub returns-then-number_type-clause-wide : goal.returns-then-number_type-clause-wide
returns-then-number_type-clause-wide c = search rules

pub returns-then-number_type-clause-word : goal.returns-then-number_type-clause-word
returns-then-number_type-clause-word c = search rules
