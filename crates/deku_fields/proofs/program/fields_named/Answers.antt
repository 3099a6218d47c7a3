use Rattle.std.proofs.Common.{◌≡◌, ◌++◌, ◌∷◌, [], List, arith, rules, refl, ◌+◌, ap, sym, ◌∙◌, subst, take}
use Rattle.std.proofs.lemmas.List.{take_all}
use Rattle.std.specs.List.{AllZip}
use Rattle.std.specs.Prelude.{string_bytes}
use Rattle.deku_fields.specs.Naming.{NamesField}
use Rattle.deku_program.specs.Texts.{words_of}
use Rattle.deku_fields.specs.declared.list.Field.{Field}
use Rattle.deku_fields.proofs.NamedItems.{none_is}
use Rattle.deku_fields.proofs.Runs.{one_more, no_list}
use Rattle.deku_fields.proofs.program.fields_named.Goals as goal

pub returns-in_default-clause-usage : goal.returns-in_default-clause-usage
returns-in_default-clause-usage c = λ e items named.
    no_list NamesField c.args.specs.now c.loop-word.word-index _ c.as_str.result.now (omega arith) (c.as_str.ensures.value ∙ ap string_bytes c.word-item.is) (λ i n. none_is ((c.in_default.ensures i).1 n)) items named

pub loop-word-preserved : goal.loop-word-preserved
loop-word-preserved c =
    let before : List Field = c.loop-word.fields.items in
    let pushed : c.push.new.self.items ≡ before ++ c.in-Some.field ∷ [] = search rules in
    let texts = c.args.specs.now in
    let i = c.loop-word.word-index in
    let more = one_more NamesField texts i _ c.as_str.result.now before c.in-Some.field (omega arith) (c.as_str.ensures.value ∙ ap string_bytes c.word-item.is) c.loop-word.invariant ((c.in-Some.ensures c.in-Some.field).0 refl) in
    subst (λ xs. AllZip NamesField (words_of (take (i + 1) texts)) xs) (sym pushed) more

pub returns-clause-named : goal.returns-clause-named
returns-clause-named c =
    let fields : List Field = c.loop-word.fields.items in
    let all : take c.loop-word.word-index c.args.specs.now ≡ c.args.specs.now = take_all c.loop-word.word-index c.args.specs.now (omega arith) in
    subst (λ xs. AllZip NamesField (words_of xs) fields) all c.loop-word.invariant
