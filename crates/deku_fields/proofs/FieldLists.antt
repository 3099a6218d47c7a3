-- The laws of lists of fields, from those of pieces and of numbers.
use Rattle.std.proofs.Common.{ℕ, ◌-◌, ◌≡◌, Bool, true, false, List, [], ◌∷◌, ◌++◌, length, map, take, ℤ, refl, ap, ap₂, sym, ◌∙◌, subst, subst₂, arith}
use Rattle.std.proofs.lemmas.List.Elements.{All-head, All-tail}
use Rattle.deku_bits.specs.declared.ctx.Order.{Order}
use Rattle.deku_bits.specs.declared.ctx.Order.TheVariants.{Msb0}
use Rattle.deku_bits.specs.Streams.{Stream, Has, taken, left, fresh}
use Rattle.deku_bits.specs.Pieces.{Piece, piece, shape, Aligned, laid_out, last_order, cleared}
use Rattle.deku_bits.specs.Symmetry.{Takes, packed}
use Rattle.deku_bits.proofs.Writing.{write_law}
use Rattle.deku_bits.proofs.Reading.{read_law}
use Rattle.deku_bits.proofs.Rewriting.{rewrite_law}
use Rattle.deku_num.specs.declared.kind.NumberType.{NumberType}
use Rattle.deku_num.specs.Numbers.{value}
use Rattle.deku_num.proofs.Values.{field_law}
use Rattle.deku_fields.specs.declared.list.Field.{Field}
use Rattle.deku_fields.specs.declared.list.Item.{Item}
use Rattle.deku_fields.specs.declared.list.Number.{Number}
use Rattle.deku_fields.specs.declared.list.Number.TheVariants.{Unsigned, Signed}
use Rattle.deku_fields.specs.Items.{IsNumber, number_type, field_width, field_shape, AlignedFields, IsWorth, IsPieceOf, ArePieces, IsFitting, ReadsValues, fields_of, values_of}
use Rattle.deku_fields.specs.Headline.{PieceLaw, LayoutLaw, ThereLaw, BackLaw, CallsLaw}

-- one whole number has one number of a kind
pub number_one : (b : Bool) (v : ℤ) (m n : Number) → IsNumber b v m → IsNumber b v n → m ≡ n
number_one false v (Unsigned m) (Unsigned n) p q = cc
number_one false v (Unsigned m) (Signed n) p q = absurd q
number_one false v (Signed m) n p q = absurd p
number_one true v (Unsigned m) n p q = absurd p
number_one true v (Signed m) (Unsigned n) p q = absurd q
number_one true v (Signed m) (Signed n) p q = ap Signed (sym p ∙ q)

-- and the other way round
value_one : (b : Bool) (v w : ℤ) (n : Number) → IsNumber b v n → IsNumber b w n → v ≡ w
value_one false v w (Unsigned n) p q = p ∙ sym q
value_one false v w (Signed n) p q = absurd p
value_one true v w (Unsigned n) p q = absurd p
value_one true v w (Signed n) p q = p ∙ sym q

-- fields read one list of numbers, and leave one stream
reads_one : (fs : List Field) (S T U : Stream) (vs us : List Number) → ReadsValues fs S vs T → ReadsValues fs S us U → (us ≡ vs) × (U ≡ T)
reads_one [] S T U [] [] r q = (refl, sym q ∙ r)
reads_one [] S T U [] (u ∷ us) r q = absurd q
reads_one [] S T U (v ∷ vs) us r q = absurd r
reads_one (f ∷ fs) S T U [] us r q = absurd r
reads_one (f ∷ fs) S T U (v ∷ vs) [] r q = absurd q
reads_one (f ∷ fs) S T U (v ∷ vs) (u ∷ us) r q =
    let k = reads_one fs (left f.layout.order (field_width f) S) T U vs us r.2 q.2 in
    (ap₂ (λ x y. x ∷ y) (number_one (number_type f.kind).signed _ u v q.1.worth r.1.worth) k.0, k.1)

-- taking the pieces of items is reading their fields
reads_from_takes : (items : List Item) (ps : List Piece) (S T : Stream) → ArePieces items ps → Takes ps S T → ReadsValues (fields_of items) S (values_of items) T
reads_from_takes [] [] S T a t = t
reads_from_takes [] (p ∷ ps) S T a t = absurd a
reads_from_takes (i ∷ is) [] S T a t = absurd a
reads_from_takes (i ∷ is) (p ∷ ps) S T a t =
    subst₂ (λ o n. Has n S × IsWorth i.field (taken o n S) i.value × ReadsValues (fields_of is) (left o n S) (values_of is) T)
    (a.0.same_order) (a.0.worth.wide)
    (t.0, subst (λ s. IsWorth i.field s i.value) (sym t.1) (a.0.worth), reads_from_takes is ps (left p.order (length p.bits) S) T a.1 t.2)

takes_from_reads : (items : List Item) (S T : Stream) → ReadsValues (fields_of items) S (values_of items) T → (ps : List Piece) × ArePieces items ps × Takes ps S T
takes_from_reads [] S T r = ([], tt, r)
takes_from_reads (i ∷ is) S T r =
    let o : Order = i.field.layout.order in
    let w : ℕ = field_width i.field in
    let s : List Bool = taken o w S in
    let k = takes_from_reads is (left o w S) T r.2 in (
      piece o s ∷ k.0,
      (record { same_order = refl; worth = r.1 }, k.1),
      subst (λ n. Has n S × (taken o n S ≡ s) × Takes k.0 (left o n S) T) (sym (r.1.wide)) (r.0, refl, k.2),
    )

-- pieces have the shapes of their fields
pub shapes : (items : List Item) (ps : List Piece) → ArePieces items ps → map shape ps ≡ map field_shape (fields_of items)
shapes [] [] a = refl
shapes [] (p ∷ ps) a = absurd a
shapes (i ∷ is) [] a = absurd a
shapes (i ∷ is) (p ∷ ps) a = ap₂ (λ x y. x ∷ y) (ap₂ (λ x y. (x, y)) a.0.same_order a.0.worth.wide) (shapes is ps a.1)

piece_one : (i : Item) → IsFitting i → (p q : Piece) → IsPieceOf i p → IsPieceOf i q → q ≡ p
piece_one i f p q a b =
    let k : NumberType = number_type i.field.kind in
    let l = i.field.layout in
    let same : value k l q.bits ≡ value k l p.bits = value_one k.signed (value k l q.bits) (value k l p.bits) i.value (b.worth.worth) (a.worth.worth) in
    let bits : q.bits ≡ p.bits = (field_law k l (f.allowed) (value k l p.bits)).1 q.bits p.bits
    (record { wide = b.worth.wide; worth = same }) (record { wide = a.worth.wide; worth = refl }) in
    ap₂ piece (b.same_order ∙ sym (a.same_order)) bits

pub piece_law : PieceLaw
piece_law [] all = ([], tt, none)
  where
    none : (qs : List Piece) → ArePieces [] qs → qs ≡ []
    none [] a = refl
    none (q ∷ qs) a = absurd a
piece_law (i ∷ is) all =
    let f : IsFitting i = All-head IsFitting i is all in
    let r = piece_law is (All-tail IsFitting i is all) in
    let p : Piece = piece i.field.layout.order f.bits in
    let a : IsPieceOf i p = record { same_order = refl; worth = f.worth } in
    (p ∷ r.0, (a, r.1), others f p a r.0 r.2)
  where
    others : IsFitting i → (p : Piece) → IsPieceOf i p → (ps : List Piece) → ((qs : List Piece) → ArePieces is qs → qs ≡ ps) → (qs : List Piece) → ArePieces (i ∷ is) qs → qs ≡ p ∷ ps
    others f p a ps h [] b = absurd b
    others f p a ps h (q ∷ qs) b = ap₂ (λ x y. x ∷ y) (piece_one i f p q a b.0) (h qs b.1)

-- aligned items, written piece by piece and padded once
pub written : (items : List Item) (ps : List Piece) → AlignedFields (fields_of items) → ArePieces items ps → packed ps ≡ laid_out ps
written items ps h a = write_law ps (subst Aligned (sym (shapes items ps a)) h)

pub there_law : ThereLaw
there_law items ps all h a =
    let b : Aligned (map shape ps) = subst Aligned (sym (shapes items ps a)) h in (
      written items ps h a,
      λ after.
          let r = read_law ps after b in
          let q = reads_from_takes items ps (fresh (laid_out ps ++ after)) r.0 a r.1 in
          (r.0, q, r.2, λ vs U u. reads_one (fields_of items) (fresh (laid_out ps ++ after)) r.0 U (values_of items) vs q u),
    )

pub back_law : BackLaw
back_law items bytes T h all r =
    let t = takes_from_reads items (fresh bytes) T r in
    let b : Aligned (map shape t.0) = subst Aligned (sym (shapes items t.0 t.1)) h in (
      t.0,
      t.1,
      rewrite_law t.0 bytes T b all t.2
          ∙ ap (λ fs. cleared (last_order Msb0 fs) (length T.window) (take (length bytes - length T.bytes) bytes)) (shapes items t.0 t.1),
    )

-- ---- several calls
abbrev Both : List Field → List Field → List Number → List Number → Stream → Stream → Type 0
Both fs gs vs us S T = (U : Stream) × ReadsValues fs S vs U × ReadsValues gs U us T

reads_apart : (fs gs : List Field) (vs us : List Number) (S T : Stream) → length vs ≡ length fs → ReadsValues (fs ++ gs) S (vs ++ us) T → Both fs gs vs us S T
reads_apart [] gs [] us S T l r = (S, refl, r)
reads_apart [] gs (v ∷ vs) us S T l r = absurd (omega arith)
reads_apart (f ∷ fs) gs [] us S T l r = absurd (omega arith)
reads_apart (f ∷ fs) gs (v ∷ vs) us S T l r =
    let k = reads_apart fs gs vs us (left f.layout.order (field_width f) S) T (omega arith) r.2 in
    (k.0, (r.0, r.1, k.1), k.2)

reads_together : (fs gs : List Field) (vs us : List Number) (S T : Stream) → Both fs gs vs us S T → ReadsValues (fs ++ gs) S (vs ++ us) T
reads_together [] gs [] us S T b = subst (λ X. ReadsValues gs X us T) (sym b.1) b.2
reads_together [] gs (v ∷ vs) us S T b = absurd b.1
reads_together (f ∷ fs) gs [] us S T b = absurd b.1
reads_together (f ∷ fs) gs (v ∷ vs) us S T b =
    (b.1.0, b.1.1, reads_together fs gs vs us (left f.layout.order (field_width f) S) T (b.0, b.1.2, b.2))

pub calls_law : CallsLaw
calls_law fs gs vs us S T l = (reads_apart fs gs vs us S T l, reads_together fs gs vs us S T)

pub layout_law : LayoutLaw
layout_law items all =
    let r = piece_law items all in
    (laid_out r.0, record { pieces = r.0; are = r.1; is = refl }, λ other l. l.is ∙ ap laid_out (r.2 (l.pieces) (l.are)))
