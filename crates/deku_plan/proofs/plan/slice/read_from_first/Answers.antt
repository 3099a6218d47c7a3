use Rattle.std.proofs.Common.{◌∙◌, ap, refl}
use Rattle.deku_bits.proofs.Handing.{unbroken}
use Rattle.deku.proofs.Containers.{starts_fresh, whole_source, new_source}
use Rattle.deku_plan.specs.Records.{records}
use Rattle.deku_plan.proofs.Wholly.{from_first}
use Rattle.deku_plan.proofs.plan.slice.read_from_first.Goals as goal

pub returns : goal.returns
returns c =
    let begin = starts_fresh _ c.args.bytes.now _ (ap whole_source c.new-reader.ensures.source ∙ new_source c.new.result _ c.new.ensures.inner c.new.ensures.position) c.new-reader.ensures.state in
    from_first (records c.args.count c.args.fields.now) c.args.bytes.now _ _ _ begin (unbroken refl refl c.read_records.ensures)
