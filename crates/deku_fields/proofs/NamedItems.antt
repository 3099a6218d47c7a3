-- What a word for an item names: a field, `=` and a value.
use Rattle.std.proofs.Common.{◌≡◌, ◌≢◌, ℕ, zero, suc, ◌<◌, Bool, true, false, cond, eqb, get_or, List, [], ◌∷◌, ◌++◌, length, codes, refl, sym, ◌∙◌, subst, inl, inr, arith, Option, Some, None}
use Rattle.std.proofs.lemmas.Bool.{ne_eqb}
use Rattle.std.proofs.lemmas.Option.{same_Some}
use Rattle.std.proofs.lemmas.Str.Parse.{tells_digits}
use Rattle.std.specs.Str.Parse.{AllDigits}
use Rattle.deku_bits.specs.declared.ctx.Order.TheVariants.{Msb0, Lsb0}
use Rattle.deku_num.specs.declared.ctx.Endian.TheVariants.{Little, Big}
use Rattle.deku_num.specs.declared.ctx.Size.{Size}
use Rattle.deku_fields.specs.declared.list.Kind.{Kind}
use Rattle.deku_fields.specs.declared.list.Kind.TheVariants.{U8, U16, U32, U64, U128, Usize, I8, I16, I32, I64, I128, Isize}
use Rattle.deku_fields.specs.declared.list.Number.{Number}
use Rattle.deku_fields.specs.declared.list.Field.{Field}
use Rattle.deku_fields.specs.declared.list.Item.{Item}
use Rattle.deku_fields.specs.Naming.{kind_name, NamesOption, NamesSize, NamesField, NamesNumber, NamesItem}
use Rattle.deku_fields.proofs.FirstComma.{free}
use Rattle.deku_fields.proofs.Numerals.{number_one}

-- ---- no `=` is in a field's word
abbrev Plain : List ℕ → Type 0
Plain text = free 61 text ≡ true

onward : (b s t : Bool) → (s ≡ true → t ≡ true) → cond b false s ≡ true → cond b false t ≡ true
onward true s t h e = absurd (cc)
onward false s t h e = h e

rest_plain : (b s : Bool) → cond b false s ≡ true → s ≡ true
rest_plain true s e = absurd (cc)
rest_plain false s e = e

plain_both : (xs ys : List ℕ) → Plain xs → Plain ys → Plain (xs ++ ys)
plain_both [] ys p q = q
plain_both (x ∷ xs) ys p q = onward (eqb x 61) (free 61 xs) (free 61 (xs ++ ys)) (λ e. plain_both xs ys e q) p

plain_at : (xs : List ℕ) → Plain xs → (i : ℕ) → i < length xs → get_or xs i 0 ≢ 61
plain_at [] p i l = absurd (omega arith)
plain_at (x ∷ xs) p zero l = λ e. let f : cond (eqb 61 61) false (free 61 xs) ≡ true = subst (λ y. cond (eqb y 61) false (free 61 xs) ≡ true) e p in absurd (cc)
plain_at (x ∷ xs) p (suc i) l = plain_at xs (rest_plain (eqb x 61) (free 61 xs) p) i (omega arith)

plain_digits : (ds : List ℕ) → AllDigits 10 ds → Plain ds
plain_digits [] d = refl
plain_digits (c ∷ cs) d =
    let p = tells_digits.parts c cs d in
    let f : eqb c 61 ≡ false = ne_eqb c 61 (λ e. omega (arith, p.0)) in
    rw f (plain_digits cs p.1)

plain_kind : (k : Kind) → Plain (kind_name k)
plain_kind U8 = refl
plain_kind U16 = refl
plain_kind U32 = refl
plain_kind U64 = refl
plain_kind U128 = refl
plain_kind Usize = refl
plain_kind I8 = refl
plain_kind I16 = refl
plain_kind I32 = refl
plain_kind I64 = refl
plain_kind I128 = refl
plain_kind Isize = refl

plain_option : {T : Type 0} (first second : List ℕ) (a b x : T) (text : List ℕ) → Plain first → Plain second → NamesOption first a second b text x → Plain text
plain_option first second a b x text p q (inl n) = subst Plain (sym (n.0)) p
plain_option first second a b x text p q (inr (inl n, m)) = subst Plain (sym n) q
plain_option first second a b x text p q (inr (inr n, m)) = subst Plain (sym n) refl

plain_size : (text : List ℕ) (s : Size) → NamesSize text s → Plain text
plain_size text s (inl p) = subst Plain (sym (p.0)) refl
plain_size text s (inr (inl p)) = let c = p.1 in subst Plain (sym (c.1)) (plain_both (codes ",bits") c.0 refl (plain_digits c.0 c.2.0.1))
plain_size text s (inr (inr p)) = let c = p.1 in subst Plain (sym (c.1)) (plain_both (codes ",bytes") c.0 refl (plain_digits c.0 c.2.0.1))

plain_field : (word : List ℕ) (f : Field) → NamesField word f → Plain word
plain_field word f n =
    let endian : Plain n.endian = plain_option (codes ",big") (codes ",little") Big Little f.layout.endian n.endian refl refl (n.endian_named) in
    let order : Plain n.order = plain_option (codes ",lsb") (codes ",msb") Lsb0 Msb0 f.layout.order n.order refl refl (n.order_named) in
    let size : Plain n.size = plain_size n.size f.layout.size (n.size_named) in
    let options : Plain (n.endian ++ (n.order ++ n.size)) = plain_both n.endian (n.order ++ n.size) endian (plain_both n.order n.size order size) in
    subst Plain (sym (n.parts)) (plain_both (kind_name f.kind) (n.endian ++ (n.order ++ n.size)) (plain_kind f.kind) options)

-- ---- items
-- whatever is around an `=` in front of which there is none is the two parts
abbrev pub CutsAt : List ℕ → List ℕ → List ℕ → Type 0
CutsAt word front back = (xs ys : List ℕ) → word ≡ xs ++ (61 ∷ ys) → ((i : ℕ) → i < length xs → get_or xs i 0 ≢ 61) → (front ≡ xs) × (back ≡ ys)

-- a word without `=` names no item
pub no_item : (word : List ℕ) → ((xs ys : List ℕ) → word ≡ xs ++ (61 ∷ ys) → ((i : ℕ) → i < length xs → get_or xs i 0 ≢ 61) → ⊥) → (i : Item) → NamesItem word i → ⊥
no_item word none i n = none n.field n.value (n.parts) (plain_at n.field (plain_field n.field i.field (n.field_named)))

-- an item that is named is named by the two parts
pub item_parts : (word front back : List ℕ) → CutsAt word front back → (i : Item) → NamesItem word i → NamesField front i.field × NamesNumber i.field.kind back i.value
item_parts word front back cuts i n =
    let p = cuts n.field n.value (n.parts) (plain_at n.field (plain_field n.field i.field (n.field_named))) in
    (subst (λ x. NamesField x i.field) (sym p.0) (n.field_named), subst (λ x. NamesNumber i.field.kind x i.value) (sym p.1) (n.value_named))

pub none_is : {A : Type 0} {x : A} → ◌≡◌ {A = Option A} None (Some x) → ⊥
none_is e = absurd (cc)

-- what is returned where nothing is named
pub not_named : (word : List ℕ) (r : Option Item) → r ≡ None → ((i : Item) → NamesItem word i → ⊥) → (i : Item) → (r ≡ Some i → NamesItem word i) × (NamesItem word i → r ≡ Some i)
not_named word r none nothing i = (λ some. let x : ◌≡◌ {A = Option Item} None (Some i) = sym none ∙ some in absurd (cc), λ n. absurd (nothing i n))

-- the item of a field and a value, and no other
pub one_item : (word front back : List ℕ) (f : Field) (v : Number) → word ≡ front ++ (61 ∷ back) → CutsAt word front back
    → ((g : Field) → (◌≡◌ {A = Option Field} (Some f) (Some g) → NamesField front g) × (NamesField front g → ◌≡◌ {A = Option Field} (Some f) (Some g))) → NamesNumber f.kind back v
    → (i : Item) → (◌≡◌ {A = Option Item} (Some (record { field = f; value = v })) (Some i) → NamesItem word i) × (NamesItem word i → ◌≡◌ {A = Option Item} (Some (record { field = f; value = v })) (Some i))
one_item word front back f v whole cuts field number i = (
  λ same. subst (λ x. NamesItem word x) (same_Some _ _ same) (record { field = front; value = back; parts = whole; field_named = (field f).0 refl; value_named = number }),
  λ n.
      let p = item_parts word front back cuts i n in
      let e : f ≡ i.field = same_Some _ _ ((field i.field).1 p.0) in
      let w : v ≡ i.value = number_one f.kind back v i.value number (subst (λ g. NamesNumber g.kind back i.value) (sym e) p.1) in
      rw (e, w) refl,
)
