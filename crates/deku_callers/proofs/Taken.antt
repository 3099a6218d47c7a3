-- What was read from any bytes is written as the bytes taken, by the laws of public calls.
use Rattle.std.proofs.Common.{◌≡◌, ℕ, ◌-◌, ◌*◌, ◌<◌, ◌≤◌, ◌^◌, List, [], ◌∷◌, length, map, take, All, Result, Ok, Err, refl, ap, sym, ◌∙◌, subst, arith, zero, suc}
use Rattle.std.proofs.lemmas.List.Elements.{All-cons, All-head, All-nil, All-tail}
use Rattle.std.specs.Global.{Vec}
use Rattle.deku_bits.specs.declared.error.DekuError.{DekuError}
use Rattle.deku_bits.specs.declared.ctx.Order.{Order}
use Rattle.deku_bits.specs.Streams.{Stream, fresh}
use Rattle.deku_bits.specs.declared.ctx.Order.TheVariants.{Msb0}
use Rattle.deku_bits.specs.Pieces.{Piece, cleared, last_order}
use Rattle.deku_fields.specs.declared.list.Number.{Number}
use Rattle.deku_fields.specs.declared.list.Field.{Field}
use Rattle.deku_fields.specs.declared.list.Item.{Item}
use Rattle.deku_fields.specs.Items.{IsFitting, IsAllowedField, ArePieces, AlignedFields, ReadsValues, field_shape, fields_of, values_of}
use Rattle.deku_fields.specs.Headline.{LayoutLaw, BackLaw}
use Rattle.deku_fields.specs.Promise.{IsCountable, WritesBack}
use Rattle.deku_callers.specs.Rewriting.{WritesTaken}

length-cleared : (o : Order) (n : ℕ) (bs : List ℕ) → length (cleared o n bs) ≡ length bs
length-cleared o n [] = refl
length-cleared o n (b ∷ []) = refl
length-cleared o n (b ∷ c ∷ bs) = ap suc (length-cleared o n (c ∷ bs))

short : (n : ℕ) (bs : List ℕ) → length (take n bs) ≤ length bs
short zero bs = omega arith
short (suc n) [] = omega arith
short (suc n) (b ∷ bs) = let more = short n bs in omega (arith, more)

-- what has pieces fits, where no layout is refused
fitting : (items : List Item) (ps : List Piece) → All IsAllowedField (fields_of items) → ArePieces items ps → All IsFitting items
fitting [] ps allowed are = All-nil IsFitting
fitting (i ∷ is) [] allowed are = absurd are
fitting (i ∷ is) (p ∷ ps) allowed are =
    All-cons
    IsFitting
    i
    is
    (record { allowed = All-head IsAllowedField i.field (fields_of is) allowed; bits = p.bits; worth = are.0.worth })
    (fitting is ps (All-tail IsAllowedField i.field (fields_of is) allowed) are.1)

-- the bits of what was read can be counted, where those of the bytes can
countable : BackLaw → LayoutLaw → (items : List Item) (bytes : List ℕ) (T : Stream) → All IsAllowedField (fields_of items) → AlignedFields (fields_of items)
    → All (λ b. b < 256) bytes → ReadsValues (fields_of items) (fresh bytes) (values_of items) T → 8 * length bytes < 2 ^ 64 → IsCountable items
countable back layout items bytes T allowed aligned bounded reads room out laid =
    let b = back items bytes T aligned bounded reads in
    let l = layout items (fitting items b.0 allowed b.1) in
    let same = l.2 out laid ∙ sym (l.2 _ (record { pieces = b.0; are = b.1; is = refl })) ∙ b.2 in
    let long : length out ≡ length (take (length bytes - length T.bytes) bytes) = ap length same ∙ length-cleared (last_order Msb0 (map field_shape (fields_of items))) (length T.window) (take (length bytes - length T.bytes) bytes) in
    let few : length (take (length bytes - length T.bytes) bytes) ≤ length bytes = short (length bytes - length T.bytes) bytes in
    omega (arith, long, few, room)

-- items of fields and of the values that they found are written as the bytes taken
items_taken : BackLaw → LayoutLaw → (items : List Item) (bytes : List ℕ) (r : Result (Vec ℕ) DekuError) → All (λ b. b < 256) bytes → All IsAllowedField (fields_of items)
    → (T : Stream) → ReadsValues (fields_of items) (fresh bytes) (values_of items) T → WritesBack items r → WritesTaken (fields_of items) bytes r
items_taken back layout items bytes (Err e) bounded allowed T reads writes aligned room = tt
items_taken back layout items bytes (Ok v) bounded allowed T reads writes aligned room =
    let small : IsCountable items = countable back layout items bytes T allowed aligned bounded reads room in
    record { values = values_of items; rest = T; read = reads; same = writes bytes T allowed aligned small bounded reads }

pub written_again : BackLaw → LayoutLaw → (fs : List Field) (bytes : List ℕ) (values : List Number) (items : List Item) (r : Result (Vec ℕ) DekuError) → All (λ b. b < 256) bytes
    → fields_of items ≡ fs → values_of items ≡ values → All IsAllowedField fs → (T : Stream) → ReadsValues fs (fresh bytes) values T → WritesBack items r → WritesTaken fs bytes r
written_again back layout fs bytes values items r bounded same_fields same_values allowed T reads writes =
    subst (λ x. WritesTaken x bytes r) same_fields
    (items_taken back layout items bytes r bounded (subst (All IsAllowedField) (sym same_fields) allowed) T
    (subst (λ x. ReadsValues x (fresh bytes) (values_of items) T) (sym same_fields) (subst (λ x. ReadsValues fs (fresh bytes) x T) (sym same_values) reads)) writes)

-- as many values are read as there are fields
pub read_length : (fs : List Field) (S : Stream) (ns : List Number) (T : Stream) → ReadsValues fs S ns T → length ns ≡ length fs
read_length [] S [] T r = refl
read_length [] S (n ∷ ns) T r = absurd r
read_length (f ∷ fs) S [] T r = absurd r
read_length (f ∷ fs) S (n ∷ ns) T r = ap suc (read_length fs _ ns T r.2)
