-- What the bytes of aligned fitting items show at each place: the law of places.
use Rattle.std.proofs.Common.{ℕ, zero, suc, ◌+◌, ◌*◌, ◌<◌, ◌≤◌, ◌≡◌, ◌⊎◌, List, [], ◌∷◌, length, map, take, get_or, All, Option, Some, None, refl, ap, sym, ◌∙◌, subst, ⊎_elim, arith}
use Rattle.std.specs.List.{slice_get}
use Rattle.std.specs.Option.{option_map_or}
use Rattle.std.proofs.lemmas.Option.{same_Some}
use Rattle.std.proofs.lemmas.List.Elements.{All-head, All-tail}
use Rattle.deku_bits.specs.declared.ctx.Order.{Order}
use Rattle.deku_bits.specs.declared.ctx.Order.TheVariants.{Msb0}
use Rattle.deku_bits.specs.Bits.{groups}
use Rattle.deku_bits.specs.Pieces.{Piece, shape, Aligned, total, last_order, laid_out}
use Rattle.deku_num.specs.NumberLaws.{place}
use Rattle.deku_fields.specs.declared.list.Field.{Field}
use Rattle.deku_fields.specs.declared.list.Item.{Item}
use Rattle.deku_fields.specs.declared.picture.Place.{Place}
use Rattle.deku_fields.specs.Items.{field_width, field_shape, IsFitting, IsAllowedField, AlignedFields, IsPieceOf, ArePieces, LaysOut, fields_of}
use Rattle.deku_fields.specs.ListCalls.{integer_of}
use Rattle.deku_fields.specs.Places.{printed_at, printed, bit_of, start, Stands, IsAt, IsPicture, PlaceLaw}
use Rattle.deku_bits.proofs.Lengths.{length_law}
use Rattle.deku_fields.proofs.FieldLists.{shapes}
use Rattle.deku_fields.proofs.OneBit.{item_bit}
use Rattle.deku_fields.proofs.Lying.{piece_bit, padding_bit, laid_small}
use Rattle.deku_fields.proofs.Meeting.{IsMet, met_or_padding}

-- the m-th of items, with its piece
record Picked (items : List Item) (ps : List Piece) (m : ℕ) (f : Field) : Type 0 where
  item : Item
  piece : Piece
  item_there : slice_get items m ≡ Some item
  piece_there : slice_get ps m ≡ Some piece
  allowed : IsAllowedField item.field
  is_piece : IsPieceOf item piece
  of_field : item.field ≡ f

pick : (items : List Item) (ps : List Piece) → All IsFitting items → ArePieces items ps → (m : ℕ) (f : Field) → slice_get (fields_of items) m ≡ Some f → Picked items ps m f
pick [] ps all are m f e = cc
pick (i ∷ is) [] all are m f e = absurd are
pick (i ∷ is) (p ∷ ps) all are zero f e = record {
  item = i;
  piece = p;
  item_there = refl;
  piece_there = refl;
  allowed = (All-head IsFitting i is all).allowed;
  is_piece = are.0;
  of_field = same_Some i.field f e;
}
pick (i ∷ is) (p ∷ ps) all are (suc m) f e =
    let r = pick is ps (All-tail IsFitting i is all) are.1 m f e in
    record { item = r.item; piece = r.piece; item_there = r.item_there; piece_there = r.piece_there; allowed = r.allowed; is_piece = r.is_piece; of_field = r.of_field }

-- bits of the m-th field, where its order meets them
field_bit : (items : List Item) (ps : List Piece) → All IsFitting items → ArePieces items ps → Aligned (map shape ps)
    → (m j : ℕ) (f : Field) → slice_get (fields_of items) m ≡ Some f → j < field_width f
    → printed (laid_out ps) (printed_at f.layout.order (start (fields_of items) m + j))
    ≡ option_map_or (λ i. bit_of (integer_of i.value) (place f.layout.endian f.layout.order (field_width f) j)) (slice_get items m) 0
field_bit items ps all are aligned m j f e l =
    let r = pick items ps all are m f e in
    let n : ℕ = start (fields_of items) m + j in
    subst (λ g. j < field_width g → printed (laid_out ps) (printed_at g.layout.order n)
    ≡ option_map_or (λ i. bit_of (integer_of i.value) (place g.layout.endian g.layout.order (field_width g) j)) (slice_get items m) 0)
    r.of_field (λ k. of_item r.item r.piece r.item_there r.piece_there r.allowed r.is_piece k) l
  where
    of_item : (i : Item) (p : Piece) → slice_get items m ≡ Some i → slice_get ps m ≡ Some p → IsAllowedField i.field → IsPieceOf i p → j < field_width i.field
        → printed (laid_out ps) (printed_at i.field.layout.order (start (fields_of items) m + j))
        ≡ option_map_or (λ x. bit_of (integer_of x.value) (place i.field.layout.endian i.field.layout.order (field_width i.field) j)) (slice_get items m) 0
    of_item i p there here ok is k =
        ap (λ o. printed (laid_out ps) (printed_at o (start (fields_of items) m + j))) (sym is.same_order)
        ∙ ap (λ s. printed (laid_out ps) (printed_at p.order (total (take m s) + j))) (sym (shapes items ps are))
        ∙ piece_bit ps m j p aligned here (subst (λ w. j < w) (sym is.worth.wide) k)
        ∙ sym (item_bit i p j ok is k)
        ∙ ap (λ x. option_map_or (λ y. bit_of (integer_of y.value) (place i.field.layout.endian i.field.layout.order (field_width i.field) j)) x 0) (sym there)

-- the field that has a shape
field_at : (fs : List Field) (m : ℕ) (w : Order × ℕ) → slice_get (map field_shape fs) m ≡ Some w → (f : Field) × (slice_get fs m ≡ Some f) × (field_shape f ≡ w)
field_at [] m w e = cc
field_at (f ∷ fs) zero w e = (f, refl, same_Some (field_shape f) w e)
field_at (f ∷ fs) (suc m) w e = field_at fs m w e

-- what is met is a bit of a field
met_stands : (fs : List Field) (k : ℕ) → IsMet (map field_shape fs) 0 k → (p : Place) × Stands fs k p
met_stands fs k m =
    let r = field_at fs m.index m.width m.there in
    let f : Field = r.0 in
    let n : ℕ = start fs m.index + m.bit in
    let e : 0 + n ≡ n = omega arith in (
      record { field = m.index; bit = place f.layout.endian f.layout.order (field_width f) m.bit },
      record {
        holder = f;
        there = r.1;
        index = m.bit;
        below = subst (λ w. m.bit < w.1) (sym r.2) m.below;
        weight = refl;
        stands = m.stands ∙ ap (λ x. printed_at m.width.0 x) e ∙ ap (λ w. printed_at w.0 n) (sym r.2);
      },
    )

pub place_law : PlaceLaw
place_law items bytes k (Some p) all aligned laid below at =
    let ps : List Piece = laid.pieces in
    let b : Aligned (map shape ps) = subst Aligned (sym (shapes items ps laid.are)) aligned in
    ap (λ x. printed x k) laid.is ∙ ap (printed (laid_out ps)) at.stands
    ∙ field_bit items ps all laid.are b p.field at.index at.holder at.there at.below
    ∙ ap (λ w. option_map_or (λ i. bit_of (integer_of i.value) w) (slice_get items p.field) 0) (sym at.weight)
place_law items bytes k None all aligned laid below at =
    let ps : List Piece = laid.pieces in
    let same = shapes items ps laid.are in
    let b : Aligned (map shape ps) = subst Aligned (sym same) aligned in
    ap (λ x. printed x k) laid.is ∙ ⊎_elim
    (λ (m : IsMet (map field_shape (fields_of items)) 0 k). let s = met_stands (fields_of items) k m in absurd (at s.0 s.1))
    (λ (x : total (map field_shape (fields_of items)) ≤ printed_at (last_order Msb0 (map field_shape (fields_of items))) k).
    padding_bit ps k b (laid_small ps) (subst (λ y. k < 8 * length y) laid.is below)
    (subst (λ s. total s ≤ printed_at (last_order Msb0 s) k) (sym same) x))
    (met_or_padding (map field_shape (fields_of items)) aligned k)

-- as many bytes as the fields' bits fill
length_laid : (items : List Item) (bytes : List ℕ) → AlignedFields (fields_of items) → LaysOut items bytes → length bytes ≡ groups (total (map field_shape (fields_of items)))
length_laid items bytes aligned laid =
    ap length laid.is ∙ length_law laid.pieces (subst Aligned (sym (shapes items laid.pieces laid.are)) aligned)
    ∙ ap (λ s. groups (total s)) (shapes items laid.pieces laid.are)

-- cells that say what is where are a picture of aligned fields
pub picture : (fs : List Field) (cells : List (Option Place)) → AlignedFields fs → length cells ≡ 8 * groups (total (map field_shape fs))
    → ((k : ℕ) → k < length cells → IsAt fs k (get_or cells k None)) → IsPicture fs cells
picture fs cells aligned l at items bytes k of_fields all laid below =
    let a : AlignedFields (fields_of items) = subst AlignedFields (sym of_fields) aligned in
    let n : length bytes ≡ groups (total (map field_shape fs)) = length_laid items bytes a laid ∙ ap (λ x. groups (total (map field_shape x))) of_fields in
    place_law items bytes k (get_or cells k None) all a laid (omega arith) (subst (λ x. IsAt x k (get_or cells k None)) (sym of_fields) (at k below))
