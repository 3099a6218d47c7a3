use Rattle.std.proofs.Common.{◌≡◌, take}
use Rattle.deku_fields.specs.Items.{fields_of}
use Rattle.deku_callers.proofs.list.fields_of.Given as goal

abbrev pub invariant-loop-item : goal.invariant-loop-item
invariant-loop-item l = l.fields.items ≡ fields_of (take l.item-index l.items)
