-- What was written is read again: from the laws that public calls ensure.
use Rattle.std.proofs.Common.{◌≡◌, ℕ, ◌+◌, ◌/◌, ◌<◌, ◌^◌, List, [], ◌∷◌, ◌++◌, length, map, All, MatchResult, Result, Ok, refl, ap, ap₂, sym, ◌∙◌, subst, arith, append-nil, take, get_or, zero, suc, ℤ}
use Rattle.std.specs.Global.{Vec}
use Rattle.std.specs.declared.io.ErrorKind.TheVariants.{OutOfMemory}
use Rattle.deku_bits.specs.declared.error.DekuError.{DekuError}
use Rattle.deku_bits.specs.declared.error.DekuError.TheVariants.{Io}
use Rattle.deku_bits.specs.Pieces.{Piece, Aligned, LengthLaw, shape, total}
use Rattle.deku_fields.specs.declared.list.Number.{Number}
use Rattle.deku_fields.specs.declared.list.Field.{Field}
use Rattle.deku_fields.specs.declared.list.Item.{Item}
use Rattle.deku_num.specs.NumberLaws.{InRange, FieldLaw}
use Rattle.deku_fields.specs.Items.{IsFitting, IsNumber, IsAllowedField, ArePieces, LaysOut, AlignedFields, number_type, field_width, field_shape, fields_of, values_of}
use Rattle.deku_fields.specs.Promise.{Begins, IsCountable, LaidOut, ReadsBackFrom}
use Rattle.deku_callers.specs.Returning.{ComesBack}

-- pieces have the orders and the widths of their fields
shapes : (items : List Item) (ps : List Piece) → ArePieces items ps → map shape ps ≡ map field_shape (fields_of items)
shapes [] [] are = refl
shapes [] (p ∷ ps) are = absurd are
shapes (i ∷ is) [] are = absurd are
shapes (i ∷ is) (p ∷ ps) are = ap₂ (λ x xs. x ∷ xs) (ap₂ (λ o n. (o, n)) are.0.same_order are.0.worth.wide) (shapes is ps are.1)

-- the bits of the bytes can be counted, where those of the fields and of the padding can
pub few : LengthLaw → (items : List Item) → AlignedFields (fields_of items) → total (map field_shape (fields_of items)) + 7 < 2 ^ 64 → IsCountable items
few long items aligned room bytes laid =
    let same = shapes items laid.pieces laid.are in
    let n : length bytes ≡ (total (map shape laid.pieces) + 7) / 8 = ap length laid.is ∙ long laid.pieces (subst Aligned (sym same) aligned) in
    let t : total (map shape laid.pieces) ≡ total (map field_shape (fields_of items)) = ap total same in
    omega (arith, n, t, room)

-- bytes that items lay out begin with these, and nothing follows
pub whole : (items : List Item) (fs : List Field) (bytes read : List ℕ) → fs ≡ fields_of items → read ≡ bytes → All IsFitting items → AlignedFields (fields_of items) → LaysOut items bytes
    → Begins fs items read []
whole items fs bytes read same is fitting aligned laid = record {
  of_fields = sym same;
  fitting = fitting;
  aligned = subst AlignedFields (sym same) aligned;
  written = bytes;
  laid = laid;
  begins = is ∙ sym (append-nil bytes);
}

-- what fields read from what their items lay out
pub read_again : LengthLaw → (items : List Item) (fs : List Field) (v : Vec ℕ) (read : List ℕ) (r : Result (ℕ × Vec Number) DekuError) → fs ≡ fields_of items → read ≡ v.items
    → LaidOut items (Ok v) → ReadsBackFrom fs read r → ComesBack items r
read_again long items fs v read r same is laid reads fitting aligned room =
    subst (λ f. MatchResult r (λ v. (v.0 ≡ total (map field_shape f)) × (v.1.items ≡ values_of items)) (λ e. e ≡ Io OutOfMemory)) same
    (reads items [] (whole items fs v.items read same is fitting aligned (laid fitting aligned (few long items aligned room)))
    (let t = ap (λ f. total (map field_shape f)) same in omega (arith, t, room)))

-- the fields of one item more
after_one : (i : ℕ) (items : List Item) (d : Item) → i < length items → fields_of (take i items) ++ ((get_or items i d).field ∷ []) ≡ fields_of (take (suc i) items)
after_one i [] d inside = absurd (omega (arith, inside))
after_one zero (x ∷ xs) d inside = refl
after_one (suc i) (x ∷ xs) d inside = ap (λ fs. x.field ∷ fs) (after_one i xs d (omega (arith, inside)))

pub one_more : (fs : List Field) (i : ℕ) (items : List Item) (d : Item) → i < length items → fs ≡ fields_of (take i items) → fs ++ ((get_or items i d).field ∷ []) ≡ fields_of (take (i + 1) items)
one_more fs i items d inside e =
    let next : suc i ≡ i + 1 = omega arith in
    ap (λ xs. xs ++ ((get_or items i d).field ∷ [])) e ∙ after_one i items d inside ∙ ap (λ n. fields_of (take n items)) next

-- an item fits, whose layout is not refused and whose value is in the range of its field
pub fitting : FieldLaw → (i : Item) (v : ℤ) → IsAllowedField i.field → InRange (number_type i.field.kind).signed i.field.layout.endian i.field.layout.order (field_width i.field) v
    → ((s : ℤ) → s ≡ v → IsNumber (number_type i.field.kind).signed s i.value) → IsFitting i
fitting law i v ok inside is =
    let k = (law (number_type i.field.kind) i.field.layout ok v).0.1 inside in
    record { allowed = ok; bits = k.0; worth = record { wide = k.1.wide; worth = is _ k.1.worth } }
