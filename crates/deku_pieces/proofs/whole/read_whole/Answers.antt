use Rattle.std.proofs.Common.{refl, ap, ◌∙◌}
use Rattle.std.proofs.lemmas.Result.{err_from_is_err_and}
use Rattle.deku_bits.proofs.Handing.{unbroken}
use Rattle.deku.proofs.Containers.{starts_fresh, whole_source, new_source, counted_state}
use Rattle.deku_pieces.proofs.Unpacking.{from_first}
use Rattle.deku_pieces.proofs.whole.read_whole.Goals as goal

pub returns : goal.returns
returns g c =
    let begin = starts_fresh _ c.args.bytes.now _ (ap whole_source c.new-reader.ensures.source ∙ new_source c.new.result _ c.new.ensures.inner c.new.ensures.position) c.new-reader.ensures.state in
    (_, from_first (g.T.DekuReader.meaning c.args.ctx) c.args.bytes.now _ _ _ begin (unbroken refl refl c.in_ok-value.ensures.reads), counted_state (whole_source c.from_reader_with_ctx.new.reader.source) c.from_reader_with_ctx.new.reader.state c.bits_read.result c.bits_read.ensures)

pub returns-in_err-value : goal.returns-in_err-value
returns-in_err-value g c =
    let begin = starts_fresh _ c.args.bytes.now _ (ap whole_source c.new-reader.ensures.source ∙ new_source c.new.result _ c.new.ensures.inner c.new.ensures.position) c.new-reader.ensures.state in
    let k = err_from_is_err_and c.from_residual.result c.from_residual.ensures.1 in
    rw (k.1, k.2) (_, from_first (g.T.DekuReader.meaning c.args.ctx) c.args.bytes.now _ _ _ begin (unbroken refl refl c.in_err-value.ensures.reads))
