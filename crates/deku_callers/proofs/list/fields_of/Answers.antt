use Rattle.std.proofs.Common.{◌≡◌, true, ◌∙◌, arith, rules}
use Rattle.std.specs.Result.{is_ok}
use Rattle.deku_num.specs.declared.ctx.Size.TheVariants.{Whole}
use Rattle.deku_num.specs.Rows.{little_msb}
use Rattle.deku_fields.specs.declared.list.Kind.TheVariants.{U8}
use Rattle.deku_fields.specs.declared.list.Number.TheVariants.{Unsigned}
use Rattle.deku_fields.specs.Rows.{item}
use Rattle.deku_callers.proofs.Returning.{one_more}
use Rattle.deku_callers.proofs.list.fields_of.Goals as goal

pub loop-item-preserved : goal.loop-item-preserved
loop-item-preserved c =
    let ok : is_ok c.push.result ≡ true = search rules in
    (rw ok at c.push.ensures.items) ∙ one_more c.loop-item.fields.items c.loop-item.item-index c.args.items.now (item U8 (little_msb Whole) (Unsigned 0)) (omega arith) c.loop-item.invariant
