use Rattle.std.proofs.Common.{refl, ap, ◌∙◌, arith}
use Rattle.deku_bits.proofs.Handing.{unbroken}
use Rattle.deku.proofs.Containers.{starts_fresh, whole_source, new_source, counted_state, refused_bytes, short_bytes, rest_bytes}
use Rattle.deku.proofs.container.DekuContainerRead.from_bytes.Goals as goal

pub returns-in_err-value : goal.returns-in_err-value
returns-in_err-value g c =
    let begin = starts_fresh _ c.args.input.0.now _ (ap whole_source c.new-reader.ensures.source ∙ new_source c.new.result _ c.new.ensures.inner c.new.ensures.position) c.new-reader.ensures.state in
    refused_bytes c.args.input.1 (g.Self.DekuReader.meaning tt) c.args.input.0.now _ _ begin _ _ c.from_residual.ensures.1 (unbroken refl refl c.in_err-value.ensures.reads)

pub returns-then-count-bytes : goal.returns-then-count-bytes
returns-then-count-bytes g c =
    let begin = starts_fresh _ c.args.input.0.now _ (ap whole_source c.new-reader.ensures.source ∙ new_source c.new.result _ c.new.ensures.inner c.new.ensures.position) c.new-reader.ensures.state in
    short_bytes c.args.input.1 (g.Self.DekuReader.meaning tt) c.args.input.0.now _ _ begin c.in_ok-value.value c.bits_read-count.result c.new-then-count-bytes.result (unbroken refl refl c.in_ok-value.ensures.reads)
    (counted_state (whole_source c.read_behind.new.reader.source) c.read_behind.new.reader.state c.bits_read-count.result c.bits_read-count.ensures) (omega arith) c.new-then-count-bytes.ensures

pub returns : goal.returns
returns g c =
    let begin = starts_fresh _ c.args.input.0.now _ (ap whole_source c.new-reader.ensures.source ∙ new_source c.new.result _ c.new.ensures.inner c.new.ensures.position) c.new-reader.ensures.state in
    rest_bytes c.args.input.1 (g.Self.DekuReader.meaning tt) c.args.input.0.now _ _ begin c.in_ok-value.value c.bits_read-count.result _ (unbroken refl refl c.in_ok-value.ensures.reads)
    (counted_state (whole_source c.read_behind.new.reader.source) c.read_behind.new.reader.state c.bits_read-count.result c.bits_read-count.ensures) (omega arith) refl
