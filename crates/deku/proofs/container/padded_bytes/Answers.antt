use Rattle.std.proofs.Common.{refl, ap, ◌∙◌, None}
use Rattle.std.proofs.lemmas.Result.{err_from_is_err_and}
use Rattle.deku_bits.proofs.Handing.{unbroken}
use Rattle.deku.proofs.Containers.{starts_empty, padded_from, refused_from, taken_before, items_in, steady, tells}
use Rattle.deku.proofs.container.padded_bytes.Goals as goal

pub returns : goal.returns
returns g c =
    let begin = starts_empty _ _ (steady None) _ c.new-cursor.ensures.position (ap items_in c.new-cursor.ensures.inner ∙ c.room_ahead.ensures) refl in
    let w = padded_from (g.T.DekuWriter.meaning c.args.value.now c.args.ctx) _ _ (tells c.write_whole.new.sink) c.in_ok-write_whole.ensures.0 begin (unbroken refl refl c.in_ok-write_whole.ensures.1) in
    (w.0, w.1, w.2, taken_before _ _ _ _ w.3 c.taken_bytes.ensures)

pub returns-in_err-write_whole : goal.returns-in_err-write_whole
returns-in_err-write_whole g c =
    let begin = starts_empty _ _ (steady None) _ c.new-cursor.ensures.position (ap items_in c.new-cursor.ensures.inner ∙ c.room_ahead.ensures) refl in
    let k = err_from_is_err_and c.from_residual.result c.from_residual.ensures.1 in
    rw (k.1, k.2) (refused_from (g.T.DekuWriter.meaning c.args.value.now c.args.ctx) _ _ c.in_err-write_whole.field-0.0 _ begin (unbroken refl refl c.in_err-write_whole.ensures.1))
