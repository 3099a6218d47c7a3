use Rattle.std.proofs.Common.{refl, ap, sym, ◌∙◌, None}
use Rattle.std.proofs.lemmas.Result.{err_from_is_err_and}
use Rattle.deku_bits.proofs.Handing.{unbroken}
use Rattle.deku.proofs.Containers.{starts_empty, below, before, place_of, items_in, steady, tells}
use Rattle.deku_fields.proofs.Whole.{written_whole, laid_ok, laid_err, from_start}
use Rattle.deku_fields.proofs.Rewritten.{fitting_read, as_taken}
use Rattle.deku_fields.proofs.Causes.{whole_caused}
use Rattle.deku_fields.proofs.write.list_to_bytes.Goals as goal

pub returns-clause-meaning : goal.returns-clause-meaning
returns-clause-meaning c =
    let begin = starts_empty _ _ (steady None) _ (ap place_of c.new-writer.ensures.sink ∙ c.new.ensures.position) (ap below c.new-writer.ensures.sink ∙ ap items_in c.new.ensures.inner ∙ c.room_ahead.ensures) c.new-writer.ensures.state in
    written_whole c.args.items.now _ _ _ (tells c.write_padded.new.writer.sink) _ (ap before (sym c.into_inner.ensures)) c.taken_bytes.ensures
    (from_start c.args.items.now _ _ _ begin (unbroken refl refl c.in_ok-write_padded.ensures))

pub returns-clause-laid_out : goal.returns-clause-laid_out
returns-clause-laid_out c = λ all aligned small.
    let begin = starts_empty _ _ (steady None) _ (ap place_of c.new-writer.ensures.sink ∙ c.new.ensures.position) (ap below c.new-writer.ensures.sink ∙ ap items_in c.new.ensures.inner ∙ c.room_ahead.ensures) c.new-writer.ensures.state in
    let w = written_whole c.args.items.now _ _ _ (tells c.write_padded.new.writer.sink) _ (ap before (sym c.into_inner.ensures)) c.taken_bytes.ensures
    (from_start c.args.items.now _ _ _ begin (unbroken refl refl c.in_ok-write_padded.ensures)) in
    laid_ok c.args.items.now _ all aligned small w.0 w.1 w.2 w.3

pub returns-in_err-write_padded-clause-meaning : goal.returns-in_err-write_padded-clause-meaning
returns-in_err-write_padded-clause-meaning c =
    let p = err_from_is_err_and c.from_residual.result c.from_residual.ensures.1 in
    rw (p.1, p.2) (let begin = starts_empty _ _ (steady None) _ (ap place_of c.new-writer.ensures.sink ∙ c.new.ensures.position) (ap below c.new-writer.ensures.sink ∙ ap items_in c.new.ensures.inner ∙ c.room_ahead.ensures) c.new-writer.ensures.state in
    (_, from_start c.args.items.now _ _ _ begin (unbroken refl refl c.in_err-write_padded.ensures)))

pub returns-in_err-write_padded-clause-laid_out : goal.returns-in_err-write_padded-clause-laid_out
returns-in_err-write_padded-clause-laid_out c =
    let p = err_from_is_err_and c.from_residual.result c.from_residual.ensures.1 in
    rw (p.1, p.2) (λ all aligned small.
    let begin = starts_empty _ _ (steady None) _ (ap place_of c.new-writer.ensures.sink ∙ c.new.ensures.position) (ap below c.new-writer.ensures.sink ∙ ap items_in c.new.ensures.inner ∙ c.room_ahead.ensures) c.new-writer.ensures.state in
    laid_err c.args.items.now _ _ all aligned small (from_start c.args.items.now _ _ _ begin (unbroken refl refl c.in_err-write_padded.ensures)))

pub returns-clause-back : goal.returns-clause-back
returns-clause-back c = λ bytes T allowed aligned small bounded reads.
    let all = fitting_read c.args.items.now bytes T allowed aligned bounded reads in
    as_taken c.args.items.now _ bytes T allowed aligned bounded reads (returns-clause-laid_out c all aligned small)

pub returns-in_err-write_padded-clause-back : goal.returns-in_err-write_padded-clause-back
returns-in_err-write_padded-clause-back c =
    let p = err_from_is_err_and c.from_residual.result c.from_residual.ensures.1 in
    rw (p.1, p.2) (λ bytes T allowed aligned small bounded reads.
    let begin = starts_empty _ _ (steady None) _ (ap place_of c.new-writer.ensures.sink ∙ c.new.ensures.position) (ap below c.new-writer.ensures.sink ∙ ap items_in c.new.ensures.inner ∙ c.room_ahead.ensures) c.new-writer.ensures.state in
    laid_err c.args.items.now _ _ (fitting_read c.args.items.now bytes T allowed aligned bounded reads) aligned small
    (from_start c.args.items.now _ _ _ begin (unbroken refl refl c.in_err-write_padded.ensures)))

pub returns-in_err-write_padded-clause-cause : goal.returns-in_err-write_padded-clause-cause
returns-in_err-write_padded-clause-cause c =
    let p = err_from_is_err_and c.from_residual.result c.from_residual.ensures.1 in
    rw (p.1, p.2) (let begin = starts_empty _ _ (steady None) _ (ap place_of c.new-writer.ensures.sink ∙ c.new.ensures.position) (ap below c.new-writer.ensures.sink ∙ ap items_in c.new.ensures.inner ∙ c.room_ahead.ensures) c.new-writer.ensures.state in
    whole_caused c.args.items.now _ (_, from_start c.args.items.now _ _ _ begin (unbroken refl refl c.in_err-write_padded.ensures)))
