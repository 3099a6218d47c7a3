use Rattle.std.proofs.Common.{◌≡◌, take, map, All}
use Rattle.deku_bits.specs.Pieces.{total}
use Rattle.deku_fields.specs.Items.{IsAllowedField, field_shape}
use Rattle.deku_c.specs.Codes.{fields_in}
use Rattle.deku_c.proofs.sizes.total_bits.Given as goal

abbrev pub invariant-loop-code : goal.invariant-loop-code
invariant-loop-code l = All IsAllowedField (fields_in (take l.code-index l.codes))
    × (l.sum ≡ total (map field_shape (fields_in (take l.code-index l.codes))))
