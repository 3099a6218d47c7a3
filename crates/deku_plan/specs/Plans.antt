-- What a plan knows of its fields, and which fields have none.
use Rattle.std.specs.Prelude.{◌≡◌, ℕ, ◌+◌, ◌≤◌, ◌^◌, true, false, List, [], ◌∷◌, All, Some, map, take, slice_get, codes, ⊤}
use Rattle.std.specs.List.{AllZip}
use Rattle.deku_bits.specs.declared.error.DekuError.{DekuError}
use Rattle.deku_bits.specs.declared.error.DekuError.TheVariants.{InvalidParam}
use Rattle.deku_bits.specs.declared.ctx.Order.TheVariants.{Msb0}
use Rattle.deku_bits.specs.Faults.{Tells}
use Rattle.deku_bits.specs.Pieces.{total}
use Rattle.deku_num.specs.declared.ctx.Endian.TheVariants.{Big}
use Rattle.deku_num.specs.NumberCalls.{beyond, IsLayoutRefusal}
use Rattle.deku_fields.specs.declared.list.Number.{Number}
use Rattle.deku_fields.specs.declared.list.Field.{Field}
use Rattle.deku_fields.specs.declared.list.Item.{Item}
use Rattle.deku_fields.specs.Items.{number_type, field_width, field_shape, IsAllowedField}
use Rattle.deku_plan.specs.declared.step.Step.{Step}

-- ---- steps
-- An unsigned field that is big and `Msb0`, and has at most 64 bits.
pub record IsHigh (f : Field) : Type 0 where
  pub unsigned : (number_type f.kind).signed ≡ false
  pub big : f.layout.endian ≡ Big
  pub high : f.layout.order ≡ Msb0
  pub few : field_width f ≤ 64

-- What a step says of its field is true, and the field's layout is not rejected.
pub record IsStepOf (f : Field) (s : Step) : Type 0 where
  pub allowed : IsAllowedField f
  pub wide : s.width ≡ field_width f
  pub high : s.high ≡ true → IsHigh f
  pub mask : s.width ≤ 64 → s.mask + 1 ≡ 2 ^ s.width

-- Each step says what is true of its field.
abbrev pub AreSteps : List Field → List Step → Type 0
AreSteps fs steps = AllZip IsStepOf fs steps

-- How many bits steps have together.
abbrev pub widths : List Step → ℕ
widths [] = 0
widths (s ∷ steps) = s.width + widths steps

-- Each step says how many bits there are before it: those of the steps before it, after so many.
abbrev pub AreFirsts : ℕ → List Step → Type 0
AreFirsts bits [] = ⊤
AreFirsts bits (s ∷ steps) = (s.first ≡ bits) × AreFirsts (bits + s.width) steps

-- ---- fields without a plan
-- The first field whose layout is rejected, and why.
pub record IsFirstRejected (fs : List Field) (e : DekuError) : Type 0 where
  pub index : ℕ
  pub holder : Field
  pub there : slice_get fs index ≡ Some holder
  pub before : All IsAllowedField (take index fs)
  pub why : IsLayoutRefusal InvalidParam (beyond holder.layout.size) (number_type holder.kind) holder.layout e

-- No layout is rejected, but a `usize` cannot count the bits.
pub record AreTooMany (fs : List Field) (e : DekuError) : Type 0 where
  pub allowed : All IsAllowedField fs
  pub many : 2 ^ 64 ≤ total (map field_shape fs)
  pub says : Tells InvalidParam (codes "count past usize") e

-- ---- items
-- A field with its value.
abbrev pub item : Field → Number → Item
item f n = record { field = f; value = n }

-- Fields with their values.
abbrev pub items : List Field → List Number → List Item
items (f ∷ fs) (n ∷ ns) = item f n ∷ items fs ns
items _ _ = []
