-- What writing and then reading promises, of any list of items.
use Rattle.std.specs.Prelude.{◌≡◌, ℕ, ◌+◌, ◌<◌, ◌^◌, List, map, All, MatchResult, Result}
use Rattle.std.specs.Global.{Vec}
use Rattle.std.specs.declared.io.ErrorKind.TheVariants.{OutOfMemory}
use Rattle.deku_bits.specs.declared.error.DekuError.{DekuError}
use Rattle.deku_bits.specs.declared.error.DekuError.TheVariants.{Io}
use Rattle.deku_bits.specs.Pieces.{total}
use Rattle.deku_fields.specs.declared.list.Number.{Number}
use Rattle.deku_fields.specs.declared.list.Item.{Item}
use Rattle.deku_fields.specs.Items.{IsFitting, AlignedFields, field_shape, fields_of, values_of}

-- For fitting items whose orders change only at byte boundaries, and whose bytes' bits can be
-- counted: their values come back, and all their bits are counted; or memory runs out.
abbrev pub ComesBack : List Item → Result (ℕ × Vec Number) DekuError → Type 0
ComesBack items r = All IsFitting items → AlignedFields (fields_of items) → total (map field_shape (fields_of items)) + 7 < 2 ^ 64
    → MatchResult r (λ v. (v.0 ≡ total (map field_shape (fields_of items))) × (v.1.items ≡ values_of items)) (λ e. e ≡ Io OutOfMemory)
