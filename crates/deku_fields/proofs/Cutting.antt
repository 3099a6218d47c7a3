-- What is left of a number that is cut to its field, and the bits that it was written as.
use Rattle.std.proofs.Common.{◌≡◌, ◌↔◌, ℕ, ◌%◌, ◌*◌, ◌^◌, ◌≤◌, Bool, true, false, not, cond, List, [], ◌∷◌, ℤ, pos, refl, ap, sym, ◌∙◌, subst, arith, mod-eq_of_lt}
use Rattle.std.proofs.lemmas.List.Elements.{All-head, All-tail}
use Rattle.deku_bits.specs.Pieces.{Piece}
use Rattle.deku_num.specs.declared.ctx.Size.{Size}
use Rattle.deku_num.specs.declared.ctx.Size.TheVariants.{Whole, Bits, Bytes}
use Rattle.deku_num.specs.declared.ctx.Layout.{Layout}
use Rattle.deku_num.specs.declared.kind.NumberType.{NumberType}
use Rattle.deku_num.specs.Numbers.{byte, width, sized_width, value, with_sign, IsAllowed, IsFieldOf, Fits}
use Rattle.deku_num.specs.NumberLaws.{residue, InType}
use Rattle.deku_num.proofs.Chunked.{number-inj}
use Rattle.deku_num.proofs.Ranges.{byte_law, type_law}
use Rattle.deku_num.proofs.Listing.{residue-lt}
use Rattle.deku_num.proofs.FieldBits.{residue-worth, whole_number, whole_list}
use Rattle.deku_fields.specs.declared.list.Kind.{Kind}
use Rattle.deku_fields.specs.declared.list.Kind.TheVariants.{U8, U16, U32, U64, U128, Usize, I8, I16, I32, I64, I128, Isize}
use Rattle.deku_fields.specs.declared.list.Number.{Number}
use Rattle.deku_fields.specs.declared.list.Number.TheVariants.{Unsigned, Signed}
use Rattle.deku_fields.specs.declared.list.Field.{Field}
use Rattle.deku_fields.specs.declared.list.Item.{Item}
use Rattle.deku_fields.specs.Items.{IsNumber, number_type, field_width, IsAllowedField, IsWorth, IsPieceOf}
use Rattle.deku_fields.specs.ListCalls.{integer_of, has_sign}
use Rattle.deku_fields.specs.Cutting.{AdmitsCut, IsCut, cuts, IsLeft, IsCutTo, AreLowest, WereWritten, CutLaw, IsAdmitted, IsCutItem, WasPieceOf, CutItemsLaw}
use Rattle.deku_fields.proofs.WritingLists.{integer_is, whole_kind}

-- ---- in whole bytes
-- a size in bytes is whole bytes
whole_bytes : (t : NumberType) (z : Size) → cuts t z ≡ true → sized_width t z % 8 ≡ 0
whole_bytes t Whole e = cc
whole_bytes t (Bits n) e = cc
whole_bytes t (Bytes n) e = either t.one_byte
  where
    either : (b : Bool) → cond b 8 (8 * n) % 8 ≡ 0
    either true = refl
    either false = omega arith

-- the number of v modulo two to the width, with its sign
abbrev pub kept_of : NumberType → Layout → ℤ → ℤ
kept_of t l v = with_sign t.signed (width t l) (residue v (width t l))

-- it is v cut to the field, and it is in the type
pub kept_is : (t : NumberType) (l : Layout) (v : ℤ) → IsAllowed t l → cuts t l.size ≡ true → IsCut t l v (kept_of t l v)
kept_is t l v ok c =
    let n : ℕ = width t l in
    let r = byte_law l.endian l.order n (residue v n) (whole_bytes t l.size c) (residue-lt v n) in
    record { fits = (r.0, whole_list t l v r.0 r.1 r.2); same = residue-worth t.signed n (residue v n) (residue-lt v n) }

pub fitting_in_type : (t : NumberType) (l : Layout) (w : ℤ) → IsAllowed t l → t.bits % 8 ≡ 0 → Fits t l w → InType t.signed t.bits w
fitting_in_type t l w ok d f = subst (λ x. InType t.signed t.bits x) f.1.worth (type_law t l d ok f.0 f.1.wide)

-- ---- what is left of a number that a field admits
-- where it is not cut, the number
pub uncut : (f : Field) (n : Number) → AdmitsCut f n → cuts (number_type f.kind) f.layout.size ≡ false → IsCutTo f n n
uncut f n a c = record { kind = a.kind; left = subst (λ b. IsLeft b (number_type f.kind) f.layout (integer_of n) (integer_of n)) (sym c) refl }

-- where it is cut, a number with the sign of the kind
kept_number : (f : Field) (n kept : Number) → AdmitsCut f n → cuts (number_type f.kind) f.layout.size ≡ true → has_sign kept ≡ (number_type f.kind).signed
    → kept_of (number_type f.kind) f.layout (integer_of n) ≡ integer_of kept → IsCutTo f n kept
kept_number f n kept a c s e =
    let t : NumberType = number_type f.kind in
    let k : IsCut t f.layout (integer_of n) (integer_of kept) = subst (λ w. IsCut t f.layout (integer_of n) w) e (kept_is t f.layout (integer_of n) a.allowed c) in
    record {
      kind = (s, fitting_in_type t f.layout (integer_of kept) a.allowed (whole_kind f.kind) k.fits);
      left = subst (λ b. IsLeft b t f.layout (integer_of n) (integer_of kept)) (sym c) k;
    }

pub unsigned_kept : (f : Field) (v m n : ℕ) → AdmitsCut f (Unsigned v) → cuts (number_type f.kind) f.layout.size ≡ true → n ≡ field_width f → m ≡ v % 2 ^ n
    → IsCutTo f (Unsigned v) (Unsigned m)
unsigned_kept f v m n a c w e =
    let t : NumberType = number_type f.kind in
    let worth : kept_of t f.layout (pos v) ≡ pos m =
    ap (λ b. with_sign b (width t f.layout) (v % 2 ^ width t f.layout)) (sym a.kind.0) ∙ ap (λ k. pos (v % 2 ^ k)) (sym w) ∙ ap pos (sym e) in
    kept_number f (Unsigned v) (Unsigned m) a c a.kind.0 worth

pub signed_kept : (f : Field) (v z : ℤ) (m n : ℕ) → AdmitsCut f (Signed v) → cuts (number_type f.kind) f.layout.size ≡ true → n ≡ field_width f → m ≡ residue v n
    → z ≡ with_sign true n m → IsCutTo f (Signed v) (Signed z)
signed_kept f v z m n a c w e q =
    let t : NumberType = number_type f.kind in
    let worth : kept_of t f.layout v ≡ z =
    ap (λ b. with_sign b (width t f.layout) (residue v (width t f.layout))) (sym a.kind.0) ∙ ap (λ k. with_sign true k (residue v k)) (sym w) ∙ ap (λ x. with_sign true n x) (sym e) ∙ sym q in
    kept_number f (Signed v) (Signed z) a c a.kind.0 worth

-- each kind has at most 128 bits, and so has each of its fields
few_kind : (k : Kind) → (number_type k).bits ≤ 128
few_kind U8 = omega arith
few_kind U16 = omega arith
few_kind U32 = omega arith
few_kind U64 = omega arith
few_kind U128 = omega arith
few_kind Usize = omega arith
few_kind I8 = omega arith
few_kind I16 = omega arith
few_kind I32 = omega arith
few_kind I64 = omega arith
few_kind I128 = omega arith
few_kind Isize = omega arith

pub few_bits : (f : Field) (n : ℕ) → IsAllowedField f → n ≡ field_width f → n ≤ 128
few_bits f n ok w = let few = few_kind f.kind in omega (arith, w, ok.within, few)

-- ---- the bits that it was written as
-- the lowest bits of v are worth what is left of it
lowest_worth : (t : NumberType) (l : Layout) (v w : ℤ) (s : List Bool) → cuts t l.size ≡ true → IsCut t l v w → AreLowest t l v s → IsFieldOf t l w s
lowest_worth t l v w s c k a =
    let f = k.fits in
    let same : f.0 ≡ s = number-inj l.endian l.order f.0 s (f.1.wide ∙ sym a.wide) (whole_number t l w f.0 (whole_bytes t l.size c) f.1 ∙ k.same ∙ sym a.worth) in
    subst (λ x. IsFieldOf t l w x) same f.1

-- and the other way round
worth_lowest : (t : NumberType) (l : Layout) (v w : ℤ) (s : List Bool) → cuts t l.size ≡ true → IsCut t l v w → IsFieldOf t l w s → AreLowest t l v s
worth_lowest t l v w s c k f = record { wide = f.wide; worth = whole_number t l w s (whole_bytes t l.size c) f ∙ k.same }

-- one number is left
cut_one : (t : NumberType) (l : Layout) (v w x : ℤ) → cuts t l.size ≡ true → IsCut t l v w → IsCut t l v x → x ≡ w
cut_one t l v w x c p q =
    let f = lowest_worth t l v w q.fits.0 c p (worth_lowest t l v x q.fits.0 c q q.fits.1) in
    sym q.fits.1.worth ∙ f.worth

-- ---- a byte
-- `u8` alone has its eight bits under each size in bytes
byte_kind : (k : Kind) → (number_type k).one_byte ≡ true → number_type k ≡ byte
byte_kind U8 e = refl
byte_kind U16 e = cc
byte_kind U32 e = cc
byte_kind U64 e = cc
byte_kind U128 e = cc
byte_kind Usize e = cc
byte_kind I8 e = cc
byte_kind I16 e = cc
byte_kind I32 e = cc
byte_kind I64 e = cc
byte_kind I128 e = cc
byte_kind Isize e = cc

-- the lowest eight bits of a byte are worth it
byte_bits : (l : Layout) (v : ℤ) (s : List Bool) (n : ℕ) → l.size ≡ Bytes n → InType false 8 v → AreLowest byte l v s ↔ IsFieldOf byte l v s
byte_bits l v s n e i = (
  λ a. subst (λ x. IsFieldOf byte l x s) worth (whole_list byte l v s a.wide a.worth),
  λ f. record { wide = f.wide; worth = whole_number byte l v s even f },
)
  where
    wide : width byte l ≡ 8
    wide = ap (λ z. sized_width byte z) e

    even : width byte l % 8 ≡ 0
    even = ap (λ n. n % 8) wide

    worth : with_sign false (width byte l) (residue v (width byte l)) ≡ v
    worth = rw (wide, i.1) (ap pos (mod-eq_of_lt i.2))

-- ---- the laws
-- the bits that a number was written as are worth what is left of it
written_worth : (k : Kind) (l : Layout) (v w : ℤ) (s : List Bool) (z : Size) → l.size ≡ z → InType (number_type k).signed (number_type k).bits v
    → IsLeft (cuts (number_type k) z) (number_type k) l v w → WereWritten z (number_type k) l v s ↔ IsFieldOf (number_type k) l w s
written_worth k l v w s Whole e i q = (subst (λ x. IsFieldOf (number_type k) l x s) (sym q), subst (λ x. IsFieldOf (number_type k) l x s) q)
written_worth k l v w s (Bits n) e i q = (subst (λ x. IsFieldOf (number_type k) l x s) (sym q), subst (λ x. IsFieldOf (number_type k) l x s) q)
written_worth k l v w s (Bytes n) e i q = either (number_type k).one_byte refl q
  where
    t : NumberType
    t = number_type k

    either : (b : Bool) → t.one_byte ≡ b → IsLeft (not b) t l v w → AreLowest t l v s ↔ IsFieldOf t l w s
    either false g c =
        let cut : cuts t l.size ≡ true = ap (λ x. cuts t x) e ∙ ap (λ x. not x) g in
        (lowest_worth t l v w s cut c, worth_lowest t l v w s cut c)
    either true g c =
        let is : t ≡ byte = byte_kind k g in
        let bits : AreLowest byte l v s ↔ IsFieldOf byte l v s = byte_bits l v s n e (subst (λ x. InType x.signed x.bits v) is i) in
        subst (λ x. AreLowest t l v s ↔ IsFieldOf t l x s) (sym c) (subst (λ x. AreLowest x l v s ↔ IsFieldOf x l v s) (sym is) bits)

one_left : (t : NumberType) (l : Layout) (v w x : ℤ) (b : Bool) → cuts t l.size ≡ b → IsLeft b t l v w → IsLeft b t l v x → x ≡ w
one_left t l v w x true c p q = cut_one t l v w x c p q
one_left t l v w x false c p q = q ∙ sym p

number_is : (b : Bool) (v : ℤ) (n : Number) → has_sign n ≡ b → v ≡ integer_of n → IsNumber b v n
number_is false v (Unsigned n) s e = e
number_is false v (Signed z) s e = cc
number_is true v (Unsigned n) s e = cc
number_is true v (Signed z) s e = e

same_number : (m n : Number) → has_sign m ≡ has_sign n → integer_of m ≡ integer_of n → m ≡ n
same_number (Unsigned m) (Unsigned n) s e = cc
same_number (Unsigned m) (Signed n) s e = cc
same_number (Signed m) (Unsigned n) s e = cc
same_number (Signed m) (Signed n) s e = ap Signed e

pub cut_law : CutLaw
cut_law f n kept a k = (one, bits)
  where
    t : NumberType
    t = number_type f.kind

    one : (other : Number) → IsCutTo f n other → other ≡ kept
    one other o = same_number other kept (o.kind.0 ∙ sym k.kind.0) (one_left t f.layout (integer_of n) (integer_of kept) (integer_of other) (cuts t f.layout.size) refl k.left o.left)

    bits : (s : List Bool) → WereWritten f.layout.size t f.layout (integer_of n) s ↔ IsWorth f s kept
    bits s =
        let h = written_worth f.kind f.layout (integer_of n) (integer_of kept) s f.layout.size refl a.kind.1 k.left in (
          λ x. let w = h.0 x in record { wide = w.wide; worth = number_is t.signed (value t f.layout s) kept k.kind.0 w.worth },
          λ y. h.1 (record { wide = y.wide; worth = integer_is t.signed (value t f.layout s) kept y.worth }),
        )

cut_piece : (i j : Item) (p : Piece) → IsAdmitted i → IsCutItem i j → WasPieceOf i p ↔ IsPieceOf j p
cut_piece i j p a c =
    let h = (cut_law i.field i.value j.value a c.cut).1 p.bits in (
      λ x. record { same_order = x.same_order ∙ ap (λ f. f.layout.order) (sym c.field); worth = subst (λ f. IsWorth f p.bits j.value) (sym c.field) (h.0 x.bits) },
      λ y. record { same_order = y.same_order ∙ ap (λ f. f.layout.order) c.field; bits = h.1 (subst (λ f. IsWorth f p.bits j.value) c.field y.worth) },
    )

pub cut_items_law : CutItemsLaw
cut_items_law [] [] a k [] = (λ x. x, λ x. x)
cut_items_law [] [] a k (p ∷ ps) = (λ x. x, λ x. x)
cut_items_law [] (j ∷ js) a k ps = absurd k
cut_items_law (i ∷ is) [] a k ps = absurd k
cut_items_law (i ∷ is) (j ∷ js) a k [] = (λ x. x, λ x. x)
cut_items_law (i ∷ is) (j ∷ js) a k (p ∷ ps) =
    let h = cut_piece i j p (All-head IsAdmitted i is a) k.0 in
    let g = cut_items_law is js (All-tail IsAdmitted i is a) k.1 ps in
    (λ x. (h.0 x.0, g.0 x.1), λ y. (h.1 y.0, g.1 y.1))
