use Rattle.std.proofs.Common.{refl, ap, ◌∙◌, inl, inr}
use Rattle.deku_bits.proofs.Handing.{unbroken}
use Rattle.deku.proofs.Containers.{starts_fresh, whole_source, new_source, counted_state}
use Rattle.deku_pieces.proofs.Unpacking.{from_first}
use Rattle.deku_formats_program.specs.declared.program.Failure.TheVariants.{Refused}
use Rattle.deku_formats_program.proofs.program.refused.Goals as goal

pub returns-in_default : goal.returns-in_default
returns-in_default g c = inl refl

pub returns : goal.returns
returns g c =
    let begin = starts_fresh _ c.args.bytes.now _ (ap whole_source c.new-reader.ensures.source ∙ new_source c.new.result _ c.new.ensures.inner c.new.ensures.position) c.new-reader.ensures.state in
    let count = counted_state (whole_source c.from_reader_with_ctx.new.reader.source) c.from_reader_with_ctx.new.reader.state c.bits_read-bits.result c.bits_read-bits.ensures in
    inr (record {
      fault = c.in-Err.fault;
      left = _;
      refused = from_first (g.T.DekuReader.meaning tt) c.args.bytes.now _ _ _ begin (unbroken refl refl c.in-Err.ensures.reads);
      field = c.field_of.result;
      is = ap (λ n. Refused c.in-Err.fault c.field_of.result n) count;
    })
