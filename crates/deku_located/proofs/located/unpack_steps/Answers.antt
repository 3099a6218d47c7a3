use Rattle.std.proofs.Common.{refl, ap, ◌∙◌, arith}
use Rattle.std.proofs.lemmas.Option.{slice_get-get_or}
use Rattle.deku_bits.proofs.Handing.{unbroken}
use Rattle.deku.proofs.Containers.{starts_fresh, whole_source, new_source, counted_state}
use Rattle.deku_pieces.proofs.Unpacking.{from_first}
use Rattle.deku_located.proofs.located.unpack_steps.Goals as goal

pub returns-in-Ok-clause-meaning : goal.returns-in-Ok-clause-meaning
returns-in-Ok-clause-meaning g c =
    let begin = starts_fresh _ c.args.bytes.now _ (ap whole_source c.new-reader.ensures.source ∙ new_source c.new.result _ c.new.ensures.inner c.new.ensures.position) c.new-reader.ensures.state in
    (_, from_first (g.P.DekuReader.meaning tt) c.args.bytes.now _ _ _ begin (unbroken refl refl c.in-Ok.ensures.reads), counted_state (whole_source c.read_steps.new.reader.source) c.read_steps.new.reader.state c.bits_read.result c.bits_read.ensures)

pub returns-in-Err-clause-meaning : goal.returns-in-Err-clause-meaning
returns-in-Err-clause-meaning g c =
    let begin = starts_fresh _ c.args.bytes.now _ (ap whole_source c.new-reader.ensures.source ∙ new_source c.new.result _ c.new.ensures.inner c.new.ensures.position) c.new-reader.ensures.state in
    (_, from_first (g.P.DekuReader.meaning tt) c.args.bytes.now _ _ _ begin (unbroken refl refl c.in-Err.ensures.reads))

pub returns-in-Err-clause-located : goal.returns-in-Err-clause-located
returns-in-Err-clause-located g c =
    let begin = starts_fresh _ c.args.bytes.now _ (ap whole_source c.new-reader.ensures.source ∙ new_source c.new.result _ c.new.ensures.inner c.new.ensures.position) c.new-reader.ensures.state in
    record {
      place = c.read_steps.new.place;
      left = _;
      refused = from_first (g.P.Steps.placed 0 c.read_steps.new.place) c.args.bytes.now _ _ _ begin (unbroken refl refl c.in-Err.ensures.placed);
      field = slice_get-get_or c.args.names.now c.read_steps.new.place.parts _ (omega (arith, c.in-Err.ensures.counted, c.requires.named));
      bit = refl;
    }
