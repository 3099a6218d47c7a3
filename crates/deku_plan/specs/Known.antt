-- What a plan keeps of its fields.
use Rattle.std.specs.Prelude.{◌≡◌, ◌↔◌, IsTrue, map, All, length}
use Rattle.deku_bits.specs.Pieces.{total}
use Rattle.deku_fields.specs.Items.{field_shape, AlignedFields}
use Rattle.deku_plan.specs.declared.plan.Plan.TheInside.{Inside}
use Rattle.deku_plan.specs.Plans.{AreSteps, AreFirsts, IsHigh}
use Rattle.deku_plan.specs.Records.{IsStraight}
use Rattle.deku_plan.specs.Laying.{IsShort}
use Rattle.deku_plan.specs.Joining.{AreParts}
use Rattle.deku_plan.specs.Blocks.{group_sizes}

-- The steps are those of the fields, with the bits before each, and as many parts are those of the
-- steps. The sizes are those of the groups that the parts end. The bits are counted, and it is
-- known whether the fields are aligned, and whether they can be cut from bytes in memory, and laid
-- into them.
pub record IsKnown (p : Inside) : Type 0 where
  pub steps : AreSteps p.fields.items p.steps.items
  pub firsts : AreFirsts 0 p.steps.items
  pub parts : length p.parts.items ≡ length p.steps.items → AreParts 0 p.steps.items p.parts.items 0
  pub sizes : p.sizes.items ≡ group_sizes p.parts.items
  pub bits : p.bits ≡ total (map field_shape p.fields.items)
  pub aligned : IsTrue p.aligned ↔ AlignedFields p.fields.items
  pub straight : IsTrue p.straight → All IsStraight p.fields.items
  pub high : IsTrue p.short → All IsHigh p.fields.items
  pub short : IsTrue p.short → All IsShort p.steps.items
