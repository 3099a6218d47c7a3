use Rattle.std.proofs.Common.{◌≡◌, take}
use Rattle.deku_fields.specs.Items.{fields_of, values_of}
use Rattle.deku_callers.proofs.list.items_of.Given as goal

abbrev pub invariant-loop-place : goal.invariant-loop-place
invariant-loop-place l = (fields_of l.items.items ≡ take l.place l.fields) × (values_of l.items.items ≡ take l.place l.values)
