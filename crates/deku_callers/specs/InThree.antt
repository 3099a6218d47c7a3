-- What is promised of lists of fields that are read in three calls.
use Rattle.std.specs.Prelude.{◌≡◌, ℕ, ◌<◌, ◌^◌, List, ◌++◌, map, MatchResult, Result}
use Rattle.std.specs.Global.{Vec}
use Rattle.std.specs.declared.io.ErrorKind.TheVariants.{OutOfMemory}
use Rattle.deku_bits.specs.declared.error.DekuError.{DekuError}
use Rattle.deku_bits.specs.declared.error.DekuError.TheVariants.{Io}
use Rattle.deku_bits.specs.Pieces.{total}
use Rattle.deku_fields.specs.declared.list.Number.{Number}
use Rattle.deku_fields.specs.declared.list.Field.{Field}
use Rattle.deku_fields.specs.declared.list.Item.{Item}
use Rattle.deku_fields.specs.Items.{field_shape, values_of}
use Rattle.deku_fields.specs.Promise.{Begins}

-- From bytes that begin with what aligned fitting items of these fields lay out, whatever follows,
-- three calls read the items' values, one after the other; or memory runs out.
abbrev pub ReadsInThree : List Field → List ℕ → Result (Vec Number × Vec Number × Vec Number) DekuError → Type 0
ReadsInThree fs bytes r = (items : List Item) (after : List ℕ) → Begins fs items bytes after → total (map field_shape fs) < 2 ^ 64
    → MatchResult r (λ v. v.0.items ++ (v.1.items ++ v.2.items) ≡ values_of items) (λ e. e ≡ Io OutOfMemory)
