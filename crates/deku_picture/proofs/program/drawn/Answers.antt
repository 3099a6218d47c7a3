use Rattle.std.proofs.Common.{◌≡◌, ◌∙◌, ap, sym, subst, map, List, rules}
use Rattle.std.specs.List.{AllZip}
use Rattle.deku_fields.specs.declared.list.Field.{Field}
use Rattle.deku_fields.specs.Places.{AreDrawable}
use Rattle.deku_program.specs.Texts.{words_of}
use Rattle.deku_picture.specs.declared.words.Named.{Named}
use Rattle.deku_picture.specs.Names.{Names, AreNamed}
use Rattle.deku_picture.specs.Drawn.{HasShown, HasNotShown, IsFailure}
use Rattle.deku_picture.proofs.Forms.{are_named, shown_by, stopped_by, named_stop, split_named, svg_asked}
use Rattle.deku_picture.proofs.program.drawn.Goals as goal

pub returns-in_err-named-clause-stops : goal.returns-in_err-named-clause-stops
returns-in_err-named-clause-stops c =
    let words = words_of c.args.args.now in
    let stops : IsFailure words c.in_err-named.field-0.0 = named_stop words (words_of c.in_ok-form.specs.now) c.in_err-named.field-0.0 c.in_ok-form.ensures.split.named c.in_err-named.ensures.stops in
    search (rules, stops)

pub returns-in_err-sample-clause-stops : goal.returns-in_err-sample-clause-stops
returns-in_err-sample-clause-stops c =
    let words = words_of c.args.args.now in
    let split = c.in_ok-form.ensures.split in
    let fields : List Field = c.in_ok-fields.fields.items in
    let same : fields ≡ map (λ n. n.field) c.in_ok-named.named.items = c.in_ok-fields.ensures ∙ ap (map (λ (n : Named). n.field)) c.as_slice.ensures.value in
    let named : AreNamed words fields = are_named words (words_of c.in_ok-form.specs.now) fields split.behind split.some (subst (AllZip Names (words_of c.in_ok-form.specs.now)) (sym same) c.in_ok-named.ensures.named) in
    let refused : HasNotShown c.in_ok-form.form fields c.in_err-sample.field-0.0 = rw (← c.as_slice-4.ensures.value) c.in_err-sample.ensures.stops in
    let stops : IsFailure words c.in_err-sample.field-0.0 = stopped_by words c.in_ok-form.form fields c.in_err-sample.field-0.0 named split.asked refused in
    search (rules, stops)

pub returns-clause-drawn : goal.returns-clause-drawn
returns-clause-drawn c =
    let words = words_of c.args.args.now in
    let split = c.in_ok-form.ensures.split in
    let fields : List Field = c.in_ok-fields.fields.items in
    let same : fields ≡ map (λ n. n.field) c.in_ok-named.named.items = c.in_ok-fields.ensures ∙ ap (map (λ (n : Named). n.field)) c.as_slice.ensures.value in
    let named : AreNamed words fields = are_named words (words_of c.in_ok-form.specs.now) fields split.behind split.some (subst (AllZip Names (words_of c.in_ok-form.specs.now)) (sym same) c.in_ok-named.ensures.named) in
    let shown : HasShown c.in_ok-form.form fields = rw (← c.as_slice-4.ensures.value) c.in_ok-sample.ensures.shown in
    record {
      fields = fields;
      named = named;
      drawable = subst AreDrawable c.as_slice-2.ensures.value c.in_ok-picture.ensures.drawable;
      shown = shown_by words c.in_ok-form.form fields split.asked shown;
    }

pub returns-in_err-named-clause-formed : goal.returns-in_err-named-clause-formed
returns-in_err-named-clause-formed c none = absurd (split_named (words_of c.args.args.now) (words_of c.in_ok-form.specs.now) c.in_ok-form.form c.in_ok-form.ensures.split none)

pub returns-in_err-fields-clause-formed : goal.returns-in_err-fields-clause-formed
returns-in_err-fields-clause-formed c none = absurd (split_named (words_of c.args.args.now) (words_of c.in_ok-form.specs.now) c.in_ok-form.form c.in_ok-form.ensures.split none)

pub returns-in_err-picture-clause-formed : goal.returns-in_err-picture-clause-formed
returns-in_err-picture-clause-formed c none = absurd (split_named (words_of c.args.args.now) (words_of c.in_ok-form.specs.now) c.in_ok-form.form c.in_ok-form.ensures.split none)

pub returns-in_err-rows-clause-formed : goal.returns-in_err-rows-clause-formed
returns-in_err-rows-clause-formed c none = absurd (split_named (words_of c.args.args.now) (words_of c.in_ok-form.specs.now) c.in_ok-form.form c.in_ok-form.ensures.split none)

pub returns-in_err-sample-clause-formed : goal.returns-in_err-sample-clause-formed
returns-in_err-sample-clause-formed c none = absurd (split_named (words_of c.args.args.now) (words_of c.in_ok-form.specs.now) c.in_ok-form.form c.in_ok-form.ensures.split none)

pub returns-in_err-text-clause-formed : goal.returns-in_err-text-clause-formed
returns-in_err-text-clause-formed c none = absurd (split_named (words_of c.args.args.now) (words_of c.in_ok-form.specs.now) c.in_ok-form.form c.in_ok-form.ensures.split none)

pub returns-clause-formed : goal.returns-clause-formed
returns-clause-formed c none = absurd (split_named (words_of c.args.args.now) (words_of c.in_ok-form.specs.now) c.in_ok-form.form c.in_ok-form.ensures.split none)

pub returns-clause-form : goal.returns-clause-form
returns-clause-form c svg = c.in_ok-text.ensures (svg_asked (words_of c.args.args.now) c.in_ok-form.form c.in_ok-form.ensures.split.asked svg)
