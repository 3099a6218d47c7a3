use Rattle.std.proofs.Common.{◌≡◌, ◌++◌, ◌∷◌, arith, None, Some, Option, Bor, List, ℕ, subst, sym}
use Rattle.std.proofs.lemmas.Option.{same_Some}
use Rattle.std.proofs.lemmas.Str.Pattern.{split_after, split_parts}
use Rattle.deku_fields.specs.declared.list.Field.{Field}
use Rattle.deku_fields.specs.Naming.{NamesNumber}
use Rattle.deku_fields.proofs.NamedItems.{no_item, item_parts, not_named, one_item, CutsAt, none_is}
use Rattle.deku_fields.proofs.words.parse_item.Goals as goal

pub returns-in_err-field : goal.returns-in_err-field
returns-in_err-field c =
    let word = c.args.word.now in
    not_named word _ c.from_residual.ensures (no_item word (λ xs ys e free. split_after 61 word xs ys None c.in_err-field.ensures.cases (omega arith) e free))

pub returns-in_err-field-2 : goal.returns-in_err-field-2
returns-in_err-field-2 c =
    let word = c.args.word.now in
    let parts : Option (Bor (List ℕ) × Bor (List ℕ)) = Some (c.in_ok-field.field, c.in_ok-field.value) in
    let cuts : CutsAt word c.in_ok-field.field.now c.in_ok-field.value.now = λ xs ys e free. split_after 61 word xs ys parts c.in_ok-field.ensures.cases (omega arith) e free in
    not_named word _ c.from_residual-in_err-field-2.ensures (λ i n. none_is ((c.in_err-field-2.ensures i.field).1 (item_parts word _ _ cuts i n).0))

pub returns-in_err-value : goal.returns-in_err-value
returns-in_err-value c =
    let word = c.args.word.now in
    let parts : Option (Bor (List ℕ) × Bor (List ℕ)) = Some (c.in_ok-field.field, c.in_ok-field.value) in
    let cuts : CutsAt word c.in_ok-field.field.now c.in_ok-field.value.now = λ xs ys e free. split_after 61 word xs ys parts c.in_ok-field.ensures.cases (omega arith) e free in
    let value = c.in_ok-field.value.now in
    not_named word _ c.from_residual-in_err-value.ensures (λ i n.
    let p = item_parts word _ _ cuts i n in
    let same : c.in_ok-field-2.field ≡ i.field = same_Some _ _ ((c.in_ok-field-2.ensures i.field).1 p.0) in
    c.in_err-value.ensures i.value (subst (λ (f : Field). NamesNumber f.kind value i.value) (sym same) p.1))

pub returns : goal.returns
returns c =
    let word = c.args.word.now in
    let parts : Option (Bor (List ℕ) × Bor (List ℕ)) = Some (c.in_ok-field.field, c.in_ok-field.value) in
    let cuts : CutsAt word c.in_ok-field.field.now c.in_ok-field.value.now = λ xs ys e free. split_after 61 word xs ys parts c.in_ok-field.ensures.cases (omega arith) e free in
    let whole : word ≡ c.in_ok-field.field.now ++ (61 ∷ c.in_ok-field.value.now) = (split_parts 61 word parts c.in_ok-field.ensures.cases (omega arith)).0 in
    one_item word _ _ c.in_ok-field-2.field c.in_ok-value.value whole cuts c.in_ok-field-2.ensures c.in_ok-value.ensures
