-- What words name: one thing, and nothing where a part of them names nothing.
use Rattle.std.proofs.Common.{◌≡◌, ℕ, Bool, true, false, true≢false, cond, eqb, List, [], ◌∷◌, ◌++◌, codes, refl, ap, sym, ◌∙◌, subst, inl, inr, Option, Some, None}
use Rattle.std.proofs.lemmas.Bool.{eq-eqb}
use Rattle.std.proofs.lemmas.List.{append_cancel_left}
use Rattle.std.proofs.lemmas.Option.{same_Some}
use Rattle.std.specs.Str.Parse.{digits_value}
use Rattle.deku_bits.specs.declared.ctx.Order.{Order}
use Rattle.deku_bits.specs.declared.ctx.Order.TheVariants.{Msb0, Lsb0}
use Rattle.deku_num.specs.declared.ctx.Endian.{Endian}
use Rattle.deku_num.specs.declared.ctx.Endian.TheVariants.{Little, Big}
use Rattle.deku_num.specs.declared.ctx.Size.{Size}
use Rattle.deku_num.specs.declared.ctx.Size.TheVariants.{Bits, Bytes}
use Rattle.deku_fields.specs.declared.list.Kind.{Kind}
use Rattle.deku_fields.specs.declared.list.Field.{Field}
use Rattle.deku_fields.specs.Naming.{kind_name, NamesOption, NamesEndian, NamesOrder, CountsBehind, NamesSize, NamesField, BeginsOption, LacksFront, SplitsOption, SplitsEndian, SplitsOrder}
use Rattle.deku_fields.proofs.FirstComma.{kind_cut}

-- ---- texts that differ
-- neither text is the front of the other
abbrev apart : List ℕ → List ℕ → Bool
apart [] ys = false
apart (x ∷ xs) [] = false
apart (x ∷ xs) (y ∷ ys) = cond (eqb x y) (apart xs ys) true

apart_lacks : (xs ys : List ℕ) → apart xs ys ≡ true → (us vs : List ℕ) → xs ++ us ≡ ys ++ vs → ⊥
apart_lacks [] ys p us vs e = true≢false (sym p)
apart_lacks (x ∷ xs) [] p us vs e = true≢false (sym p)
apart_lacks (x ∷ xs) (y ∷ ys) p us vs e =
    let head : x ≡ y = cc in
    let tail : xs ++ us ≡ ys ++ vs = cc in
    apart_lacks xs ys (same (eqb x y) (eq-eqb x y head) p) us vs tail
  where
    same : (b : Bool) → b ≡ true → cond b (apart xs ys) true ≡ true → apart xs ys ≡ true
    same true e q = q
    same false e q = absurd (true≢false (sym e))

-- ---- options
-- no size begins with another word
size_lacks : (word text : List ℕ) (s : Size) → apart word (codes ",bits") ≡ true → apart word (codes ",bytes") ≡ true → NamesSize text s → LacksFront word text
size_lacks [] text s p q n = absurd (true≢false (sym p))
size_lacks (x ∷ xs) text s p q (inl n) = λ rest e. let f : [] ≡ (x ∷ xs) ++ rest = sym (n.0) ∙ e in absurd (cc)
size_lacks (x ∷ xs) text s p q (inr (inl n)) = λ rest e. apart_lacks (x ∷ xs) (codes ",bits") p rest n.1.0 (sym e ∙ n.1.1)
size_lacks (x ∷ xs) text s p q (inr (inr n)) = λ rest e. apart_lacks (x ∷ xs) (codes ",bytes") q rest n.1.0 (sym e ∙ n.1.1)

-- nor does an option before what does not, where the option does not
option_lacks : {T : Type 0} (first second : List ℕ) (a b x : T) (word part tail : List ℕ) → apart word first ≡ true → apart word second ≡ true
    → NamesOption first a second b part x → LacksFront word tail → LacksFront word (part ++ tail)
option_lacks first second a b x word part tail p q (inl n) lacks = λ rest e. apart_lacks word first p rest tail (sym e ∙ ap (λ y. y ++ tail) n.0)
option_lacks first second a b x word part tail p q (inr (inl n, m)) lacks = λ rest e. apart_lacks word second q rest tail (sym e ∙ ap (λ y. y ++ tail) n)
option_lacks first second a b x word part tail p q (inr (inr n, m)) lacks = λ rest e. lacks rest (sym (ap (λ y. y ++ tail) n) ∙ e)

-- no order with a size begins with another word
tail_lacks : (word part size : List ℕ) (o : Order) (s : Size) → apart word (codes ",lsb") ≡ true → apart word (codes ",msb") ≡ true → apart word (codes ",bits") ≡ true
    → apart word (codes ",bytes") ≡ true → NamesOrder part o → NamesSize size s → LacksFront word (part ++ size)
tail_lacks word part size o s p q v w m n = option_lacks (codes ",lsb") (codes ",msb") Lsb0 Msb0 o word part size p q m (size_lacks word size s v w n)

-- an option that is named is the one in front, and after it is the rest
option_ahead : {T : Type 0} (first second : List ℕ) (a b t x : T) (text part tail rest : List ℕ) → apart first second ≡ true → LacksFront first tail → LacksFront second tail
    → SplitsOption first a second b text t rest → text ≡ part ++ tail → NamesOption first a second b part x → (t ≡ x) × (rest ≡ tail)
option_ahead first second a b t x text part tail rest p k l (inl s) e (inl n) =
    (s.1 ∙ sym (n.1), append_cancel_left first rest tail (sym (s.0) ∙ e ∙ ap (λ y. y ++ tail) n.0))
option_ahead first second a b t x text part tail rest p k l (inl s) e (inr (inl n, m)) =
    absurd (apart_lacks first second p rest tail (sym (s.0) ∙ e ∙ ap (λ y. y ++ tail) n))
option_ahead first second a b t x text part tail rest p k l (inl s) e (inr (inr n, m)) = absurd (k rest (sym (ap (λ y. y ++ tail) n) ∙ sym e ∙ s.0))
option_ahead first second a b t x text part tail rest p k l (inr (inl s)) e (inl n) =
    absurd (apart_lacks first second p tail rest (sym (ap (λ y. y ++ tail) n.0) ∙ sym e ∙ s.0))
option_ahead first second a b t x text part tail rest p k l (inr (inl s)) e (inr (inl n, m)) =
    (s.1 ∙ sym m, append_cancel_left second rest tail (sym (s.0) ∙ e ∙ ap (λ y. y ++ tail) n))
option_ahead first second a b t x text part tail rest p k l (inr (inl s)) e (inr (inr n, m)) = absurd (l rest (sym (ap (λ y. y ++ tail) n) ∙ sym e ∙ s.0))
option_ahead first second a b t x text part tail rest p k l (inr (inr s)) e (inl n) = absurd (s.2 tail (e ∙ ap (λ y. y ++ tail) n.0))
option_ahead first second a b t x text part tail rest p k l (inr (inr s)) e (inr (inl n, m)) = absurd (s.3 tail (e ∙ ap (λ y. y ++ tail) n))
option_ahead first second a b t x text part tail rest p k l (inr (inr s)) e (inr (inr n, m)) = (s.1 ∙ sym m, sym (s.0) ∙ e ∙ ap (λ y. y ++ tail) n)

-- what is in front of the rest is an option
option_part : {T : Type 0} (first second : List ℕ) (a b t : T) (text rest : List ℕ) → SplitsOption first a second b text t rest
    → (part : List ℕ) × NamesOption first a second b part t × (text ≡ part ++ rest)
option_part first second a b t text rest (inl s) = (first, inl (refl, s.1), s.0)
option_part first second a b t text rest (inr (inl s)) = (second, inr (inl refl, s.1), s.0)
option_part first second a b t text rest (inr (inr s)) = ([], inr (inr refl, s.1), s.0)

-- ---- sizes
one_count : (unit text : List ℕ) (m n : ℕ) → CountsBehind unit text m → CountsBehind unit text n → m ≡ n
one_count unit text m n c d =
    let same : c.0 ≡ d.0 = append_cancel_left unit c.0 d.0 (sym (c.1) ∙ d.1) in
    c.2.1 ∙ ap (digits_value 10) same ∙ sym (d.2.1)

no_unit : (unit text : List ℕ) (n : ℕ) → text ≡ [] → CountsBehind (codes "," ++ unit) text n → ⊥
no_unit unit text n e c = let f : [] ≡ codes "," ++ unit ++ c.0 = sym e ∙ c.1 in absurd (cc)

two_units : (text : List ℕ) (m n : ℕ) → CountsBehind (codes ",bits") text m → CountsBehind (codes ",bytes") text n → ⊥
two_units text m n c d = apart_lacks (codes ",bits") (codes ",bytes") refl c.0 d.0 (sym (c.1) ∙ d.1)

size_one : (text : List ℕ) (s t : Size) → NamesSize text s → NamesSize text t → s ≡ t
size_one text s t (inl p) (inl q) = p.1 ∙ sym (q.1)
size_one text s t (inl p) (inr (inl q)) = absurd (no_unit (codes "bits") text q.0 p.0 q.1)
size_one text s t (inl p) (inr (inr q)) = absurd (no_unit (codes "bytes") text q.0 p.0 q.1)
size_one text s t (inr (inl p)) (inl q) = absurd (no_unit (codes "bits") text p.0 q.0 p.1)
size_one text s t (inr (inl p)) (inr (inl q)) = p.2 ∙ ap Bits (one_count (codes ",bits") text p.0 q.0 p.1 q.1) ∙ sym (q.2)
size_one text s t (inr (inl p)) (inr (inr q)) = absurd (two_units text p.0 q.0 p.1 q.1)
size_one text s t (inr (inr p)) (inl q) = absurd (no_unit (codes "bytes") text p.0 q.0 p.1)
size_one text s t (inr (inr p)) (inr (inl q)) = absurd (two_units text q.0 p.0 q.1 p.1)
size_one text s t (inr (inr p)) (inr (inr q)) = p.2 ∙ ap Bytes (one_count (codes ",bytes") text p.0 q.0 p.1 q.1) ∙ sym (q.2)

-- ---- what begins with a comma
size_begins : (text : List ℕ) (s : Size) → NamesSize text s → BeginsOption text
size_begins text s (inl p) = subst BeginsOption (sym (p.0)) tt
size_begins text s (inr (inl p)) = subst BeginsOption (sym (p.1.1)) refl
size_begins text s (inr (inr p)) = subst BeginsOption (sym (p.1.1)) refl

order_begins : (part tail : List ℕ) (o : Order) → NamesOrder part o → BeginsOption tail → BeginsOption (part ++ tail)
order_begins part tail o (inl p) b = subst (λ y. BeginsOption (y ++ tail)) (sym (p.0)) refl
order_begins part tail o (inr (inl p, q)) b = subst (λ y. BeginsOption (y ++ tail)) (sym p) refl
order_begins part tail o (inr (inr p, q)) b = subst (λ y. BeginsOption (y ++ tail)) (sym p) b

endian_begins : (part tail : List ℕ) (e : Endian) → NamesEndian part e → BeginsOption tail → BeginsOption (part ++ tail)
endian_begins part tail e (inl p) b = subst (λ y. BeginsOption (y ++ tail)) (sym (p.0)) refl
endian_begins part tail e (inr (inl p, q)) b = subst (λ y. BeginsOption (y ++ tail)) (sym p) refl
endian_begins part tail e (inr (inr p, q)) b = subst (λ y. BeginsOption (y ++ tail)) (sym p) b

-- ---- fields
-- a word that is cut into its parts
pub record Cut (word : List ℕ) (k : Kind) (e : Endian) (o : Order) (size : List ℕ) : Type 0 where
  pub options : List ℕ
  pub behind : List ℕ
  pub starts : word ≡ kind_name k ++ options
  pub begins : BeginsOption options
  pub ends : SplitsEndian options e behind
  pub last : SplitsOrder behind o size

-- the field of the parts
abbrev field_of : Kind → Endian → Order → Size → Field
field_of k e o s = record { kind = k; layout = record { endian = e; order = o; size = s } }

-- the parts name the field
pub named : (word size : List ℕ) (k : Kind) (e : Endian) (o : Order) (s : Size) → Cut word k e o size → NamesSize size s → NamesField word (field_of k e o s)
named word size k e o s c n =
    let p = option_part (codes ",big") (codes ",little") Big Little e c.options c.behind (c.ends) in
    let q = option_part (codes ",lsb") (codes ",msb") Lsb0 Msb0 o c.behind size (c.last) in
    record {
      endian = p.0;
      order = q.0;
      size = size;
      parts = c.starts ∙ ap (λ x. kind_name k ++ x) (p.2 ∙ ap (λ x. p.0 ++ x) q.2);
      endian_named = p.1;
      order_named = q.1;
      size_named = n;
    }

-- what a field that is named has in common with them
record Agrees (k : Kind) (e : Endian) (o : Order) (size : List ℕ) (f : Field) : Type 0 where
  kind : k ≡ f.kind
  endian : e ≡ f.layout.endian
  order : o ≡ f.layout.order
  size_named : NamesSize size f.layout.size

agrees : (word size : List ℕ) (k : Kind) (e : Endian) (o : Order) (f : Field) → Cut word k e o size → NamesField word f → Agrees k e o size f
agrees word size k e o f c n =
    let tail = n.order ++ n.size in
    let begins : BeginsOption (n.endian ++ tail) =
    endian_begins n.endian tail f.layout.endian (n.endian_named) (order_begins n.order n.size f.layout.order (n.order_named) (size_begins n.size f.layout.size (n.size_named))) in
    let no_big : LacksFront (codes ",big") tail = tail_lacks (codes ",big") n.order n.size f.layout.order f.layout.size refl refl refl refl (n.order_named) (n.size_named) in
    let no_little : LacksFront (codes ",little") tail = tail_lacks (codes ",little") n.order n.size f.layout.order f.layout.size refl refl refl refl (n.order_named) (n.size_named) in
    let no_lsb : LacksFront (codes ",lsb") n.size = size_lacks (codes ",lsb") n.size f.layout.size refl refl (n.size_named) in
    let no_msb : LacksFront (codes ",msb") n.size = size_lacks (codes ",msb") n.size f.layout.size refl refl (n.size_named) in
    let a = kind_cut k f.kind c.options (n.endian ++ tail) (sym (c.starts) ∙ n.parts) (c.begins) begins in
    let b = option_ahead (codes ",big") (codes ",little") Big Little e f.layout.endian c.options n.endian tail c.behind refl no_big no_little (c.ends) a.1 (n.endian_named) in
    let d = option_ahead (codes ",lsb") (codes ",msb") Lsb0 Msb0 o f.layout.order c.behind n.order n.size size refl no_lsb no_msb (c.last) b.1 (n.order_named) in
    record {
      kind = a.0;
      endian = b.0;
      order = d.0;
      size_named = subst (λ x. NamesSize x f.layout.size) (sym d.1) (n.size_named);
    }

-- the word names the field of its parts, and no other
pub one_named : (word size : List ℕ) (k : Kind) (e : Endian) (o : Order) (s : Size) → Cut word k e o size → NamesSize size s → (f : Field)
    → (◌≡◌ {A = Option Field} (Some (field_of k e o s)) (Some f) → NamesField word f) × (NamesField word f → ◌≡◌ {A = Option Field} (Some (field_of k e o s)) (Some f))
one_named word size k e o s c n f = (
  λ same. subst (λ x. NamesField word x) (same_Some _ _ same) (named word size k e o s c n),
  λ m.
      let a = agrees word size k e o f c m in
      let i : s ≡ f.layout.size = size_one size s f.layout.size n (a.size_named) in
      rw (a.kind, a.endian, a.order, i) refl,
)

-- the word names no field where its end names no size
pub none_named : (word size : List ℕ) (k : Kind) (e : Endian) (o : Order) (r : Option Field) → Cut word k e o size → ((s : Size) → NamesSize size s → ⊥) → r ≡ None
    → (f : Field) → (r ≡ Some f → NamesField word f) × (NamesField word f → r ≡ Some f)
none_named word size k e o r c n none f = (
  λ some. let x : ◌≡◌ {A = Option Field} None (Some f) = sym none ∙ some in absurd (cc),
  λ m. absurd (n f.layout.size (agrees word size k e o f c m).size_named),
)
