-- What a list that was read is written as.
use Rattle.std.proofs.Common.{◌≡◌, ℕ, ◌-◌, ◌<◌, List, [], ◌∷◌, length, map, take, All, refl, sym, ◌∙◌}
use Rattle.std.proofs.lemmas.List.Elements.{All-cons, All-head, All-nil, All-tail}
use Rattle.deku_bits.specs.declared.ctx.Order.TheVariants.{Msb0}
use Rattle.deku_bits.specs.Streams.{Stream, fresh}
use Rattle.deku_bits.specs.Pieces.{Piece, cleared, last_order}
use Rattle.deku_fields.specs.declared.list.Item.{Item}
use Rattle.deku_fields.specs.Items.{IsFitting, IsAllowedField, ArePieces, AlignedFields, LaysOut, ReadsValues, fields_of, values_of, field_shape}
use Rattle.deku_fields.proofs.FieldLists.{back_law, layout_law}

-- what has pieces fits, where no layout is refused
fitting : (items : List Item) (ps : List Piece) → All IsAllowedField (fields_of items) → ArePieces items ps → All IsFitting items
fitting [] ps allowed are = All-nil IsFitting
fitting (i ∷ is) [] allowed are = absurd are
fitting (i ∷ is) (p ∷ ps) allowed are =
    All-cons
    IsFitting
    i
    is
    (record { allowed = All-head IsAllowedField i.field (fields_of is) allowed; bits = p.bits; worth = are.0.worth })
    (fitting is ps (All-tail IsAllowedField i.field (fields_of is) allowed) are.1)

-- what was read fits
pub fitting_read : (items : List Item) (bytes : List ℕ) (T : Stream) → All IsAllowedField (fields_of items) → AlignedFields (fields_of items) → All (λ b. b < 256) bytes
    → ReadsValues (fields_of items) (fresh bytes) (values_of items) T → All IsFitting items
fitting_read items bytes T allowed aligned bounded reads =
    let b = back_law items bytes T aligned bounded reads in
    fitting items b.0 allowed b.1

-- what it lays out is what was taken
pub as_taken : (items : List Item) (out bytes : List ℕ) (T : Stream) → All IsAllowedField (fields_of items) → AlignedFields (fields_of items) → All (λ b. b < 256) bytes
    → ReadsValues (fields_of items) (fresh bytes) (values_of items) T → LaysOut items out
    → out ≡ cleared (last_order Msb0 (map field_shape (fields_of items))) (length T.window) (take (length bytes - length T.bytes) bytes)
as_taken items out bytes T allowed aligned bounded reads laid =
    let b = back_law items bytes T aligned bounded reads in
    let l = layout_law items (fitting items b.0 allowed b.1) in
    l.2 out laid ∙ sym (l.2 _ (record { pieces = b.0; are = b.1; is = refl })) ∙ b.2
