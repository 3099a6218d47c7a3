use Rattle.std.proofs.Common.{◌≡◌, ◌++◌, ◌∷◌, [], List, arith, ap, sym, ◌∙◌, subst, take, drop, suc}
use Rattle.std.proofs.lemmas.List.{take_all}
use Rattle.std.specs.Prelude.{string_bytes}
use Rattle.deku_fields.specs.declared.list.Field.{Field}
use Rattle.deku_program.specs.Texts.{words_of}
use Rattle.deku_fields.proofs.Runs.{one_more}
use Rattle.deku_picture.specs.declared.words.Named.{Named}
use Rattle.deku_picture.specs.Names.{Names, NameFields}
use Rattle.deku_picture.proofs.Forms.{at_word}
use Rattle.deku_picture.proofs.program.first_unnamed.Goals as goal

pub returns-in_default : goal.returns-in_default
returns-in_default c =
    let texts = c.args.specs.now in
    let after = words_of (drop (suc c.loop-word.word-index) texts) in
    let word = c.as_str-text.ensures.value ∙ ap string_bytes c.word-item.is in
    record {
      before = words_of (take c.loop-word.word-index texts);
      after = after;
      is = subst (λ w. words_of texts ≡ words_of (take c.loop-word.word-index texts) ++ w ∷ after) (sym word) (at_word texts c.loop-word.word-index _ (omega arith));
      named = c.loop-word.invariant;
      none = λ f n. c.in_default.ensures n.0 n.1 f n.2;
    }

pub loop-word-preserved : goal.loop-word-preserved
loop-word-preserved c =
    let texts = c.args.specs.now in
    let before : List Field = c.loop-word.invariant.0 in
    let one : Named = c.in-Some.field-0 in (
      before ++ one.field ∷ [],
      one_more Names texts c.loop-word.word-index _ c.as_str-text.result.now before one.field (omega arith) (c.as_str-text.ensures.value ∙ ap string_bytes c.word-item.is) c.loop-word.invariant.1
          (one.name.now, one.spec.now, c.in-Some.ensures),
    )

pub returns : goal.returns
returns c =
    let all : take c.loop-word.word-index c.args.specs.now ≡ c.args.specs.now = take_all c.loop-word.word-index c.args.specs.now (omega arith) in
    subst (λ xs. NameFields (words_of xs)) all c.loop-word.invariant
