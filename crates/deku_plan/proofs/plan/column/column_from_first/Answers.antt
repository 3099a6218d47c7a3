use Rattle.std.proofs.Common.{◌∙◌, ap, inr, refl, length}
use Rattle.deku.proofs.Containers.{starts_fresh, whole_source, new_source}
use Rattle.deku_plan.proofs.Columned.{column_begun}
use Rattle.deku_plan.proofs.plan.column.column_from_first.Goals as goal

pub returns : goal.returns
returns c =
    let begin = starts_fresh _ c.args.bytes.now _ (ap whole_source c.new-reader.ensures.source ∙ new_source c.new.result _ c.new.ensures.inner c.new.ensures.position) c.new-reader.ensures.state in
    inr (column_begun c.args.fields.now (length c.args.out.now) c.args.index c.args.bytes.now _ _ _ _ _ refl refl begin c.read_each.ensures)
