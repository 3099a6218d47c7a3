use Rattle.std.proofs.Common.{◌≡◌, ◌++◌, ◌∷◌, [], List, arith, rules, refl, ◌+◌, ap, sym, ◌∙◌, subst, take, map, inl}
use Rattle.std.proofs.lemmas.List.{map-append}
use Rattle.std.specs.List.{AllZip}
use Rattle.std.specs.Prelude.{string_bytes}
use Rattle.deku_program.specs.Texts.{words_of}
use Rattle.deku_fields.proofs.Runs.{one_more, no_list}
use Rattle.deku_picture.specs.declared.words.Named.{Named}
use Rattle.deku_picture.specs.Names.{Names}
use Rattle.deku_picture.proofs.program.fields_named.Goals as goal

pub returns-in_default-clause-stops : goal.returns-in_default-clause-stops
returns-in_default-clause-stops c = inl (
  refl,
  λ fields named.
      no_list Names c.args.specs.now c.loop-word.word-index _ c.as_str.result.now (omega arith) (c.as_str.ensures.value ∙ ap string_bytes c.word-item.is) (λ f n. c.in_default.ensures n.0 n.1 f n.2) fields named,
)

pub loop-word-preserved : goal.loop-word-preserved
loop-word-preserved c =
    let before : List Named = c.loop-word.fields.items in
    let field : Named = c.in-Some.field in
    let pushed : c.push.new.self.items ≡ before ++ field ∷ [] = search rules in
    let texts = c.args.specs.now in
    let i = c.loop-word.word-index in
    let more = one_more Names texts i _ c.as_str.result.now (map (λ n. n.field) before) field.field (omega arith) (c.as_str.ensures.value ∙ ap string_bytes c.word-item.is) c.loop-word.invariant
    (field.name.now, field.spec.now, c.in-Some.ensures) in
    subst (λ xs. AllZip Names (words_of (take (i + 1) texts)) xs) (sym (ap (map (λ (n : Named). n.field)) pushed ∙ map-append (λ (n : Named). n.field) before (field ∷ []))) more
