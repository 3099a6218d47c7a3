-- Lists of fields and items, one after the other: what is known on the way.
use Rattle.std.proofs.Common.{◌≡◌, ℕ, ◌+◌, ◌<◌, ◌≤◌, true, false, Result, Ok, Err, Option, List, [], ◌∷◌, ◌++◌, length, get_or, set, take, drop, ℤ, pos, refl, ap, sym, ◌∙◌, subst, append_assoc, append-nil}
use Rattle.std.proofs.lemmas.List.{drop_more, drop_all, take_all, take_more_set}
use Rattle.deku_bits.specs.declared.error.DekuError.{DekuError}
use Rattle.deku_bits.specs.Streams.{Stream}
use Rattle.deku_bits.specs.Devices.{Health}
use Rattle.deku_bits.specs.Standings.{Standing, Output}
use Rattle.deku_bits.specs.Outcomes.{Meaning, Outcome, Mapped}
use Rattle.deku_bits.proofs.Handing.{mapped_ok, mapped_err, weaker}
use Rattle.deku_num.specs.declared.kind.NumberType.{NumberType}
use Rattle.deku_num.specs.NumberCalls.{ReadsNumber, WritesNumber, Passed}
use Rattle.deku.proofs.Joining.{first_refused, then_on, answered}
use Rattle.deku_fields.specs.declared.list.Number.{Number}
use Rattle.deku_fields.specs.declared.list.Number.TheVariants.{Unsigned, Signed}
use Rattle.deku_fields.specs.declared.list.Field.{Field}
use Rattle.deku_fields.specs.declared.list.Item.{Item}
use Rattle.deku_fields.specs.Items.{number_type}
use Rattle.deku_fields.specs.ListCalls.{number_of, integer_of, IsOfKind, ReadsField, ReadsFields, WritesItem, WritesItems}

-- ---- one field
-- a value of a field with a sign, and of one without
pub signed_field : (f : Field) {v w : ℤ} {s : Standing (Option Stream)} {h : Health} {u : Standing (Option Stream)} {g : Health}
    → (number_type f.kind).signed ≡ true → v ≡ w → Outcome (ReadsNumber (number_type f.kind) f.layout) s h (Ok w) u g → Outcome (ReadsField f) s h (Ok (Signed v)) u g
signed_field f {w} {s} {h} {u} {g} e k o =
    subst (λ n. Outcome (ReadsField f) s h (Ok n) u g) (ap (λ b. number_of b w) e ∙ ap Signed (sym k)) (mapped_ok (number_of (number_type f.kind).signed) o)

pub unsigned_field : (f : Field) {v : ℕ} {s : Standing (Option Stream)} {h : Health} {u : Standing (Option Stream)} {g : Health}
    → (number_type f.kind).signed ≡ false → Outcome (ReadsNumber (number_type f.kind) f.layout) s h (Ok (pos v)) u g → Outcome (ReadsField f) s h (Ok (Unsigned v)) u g
unsigned_field f {v} {s} {h} {u} {g} e o =
    subst (λ n. Outcome (ReadsField f) s h (Ok n) u g) (ap (λ b. number_of b (pos v)) e) (mapped_ok (number_of (number_type f.kind).signed) o)

-- ---- fields
-- numbers in front of those that are returned
abbrev pub with_front : List Number → Result (List Number) DekuError → Result (List Number) DekuError
with_front ns (Ok ms) = Ok (ns ++ ms)
with_front ns (Err e) = Err e

-- the fields from place i on may follow: the numbers of those before it are ns
abbrev pub Continues : List Field → ℕ → List Number → Standing (Option Stream) → Health → Standing (Option Stream) → Health → Type 0
Continues fs i ns s0 f0 s f = (r : Result (List Number) DekuError) (u : Standing (Option Stream)) (h : Health)
    → Outcome (ReadsFields (drop i fs)) s f r u h → Outcome (ReadsFields fs) s0 f0 (with_front ns r) u h

consed : (n : Number) (m : Meaning (Option Stream) (List Number)) (s : Standing (Option Stream)) (f : Health) (r : Result (List Number) DekuError) (u : Standing (Option Stream)) (g : Health)
    → Outcome m s f r u g → Outcome (Mapped (λ ns. n ∷ ns) m) s f (with_front (n ∷ []) r) u g
consed n m s f (Ok ms) u g o = mapped_ok (λ ns. n ∷ ns) o
consed n m s f (Err e) u g o = mapped_err (λ ns. n ∷ ns) o

fronts : (ns : List Number) (n : Number) (r : Result (List Number) DekuError) → with_front ns (with_front (n ∷ []) r) ≡ with_front (ns ++ n ∷ []) r
fronts ns n (Ok ms) = ap Ok (sym (append_assoc ns (n ∷ []) ms))
fronts ns n (Err e) = refl

pub field_read : (fs : List Field) (i : ℕ) (d : Field) (out : List Number) (n : Number) (s0 : Standing (Option Stream)) (f0 : Health) (s : Standing (Option Stream)) (f : Health) (t : Standing (Option Stream)) (g : Health)
    → i < length fs → i < length out → Continues fs i (take i out) s0 f0 s f → Outcome (ReadsField (get_or fs i d)) s f (Ok n) t g
    → Continues fs (i + 1) (take (i + 1) (set out i n)) s0 f0 t g
field_read fs i d out n s0 f0 s f t g l m k o r u h p =
    let next : drop i fs ≡ get_or fs i d ∷ drop (i + 1) fs = drop_more fs i d l in
    let both : Outcome (ReadsFields (get_or fs i d ∷ drop (i + 1) fs)) s f (with_front (n ∷ []) r) u h = then_on o (consed n (ReadsFields (drop (i + 1) fs)) t g r u h p) in
    let all : Outcome (ReadsFields fs) s0 f0 (with_front (take i out) (with_front (n ∷ []) r)) u h =
    k (with_front (n ∷ []) r) u h (subst (λ x. Outcome (ReadsFields x) s f (with_front (n ∷ []) r) u h) (sym next) both) in
    subst (λ x. Outcome (ReadsFields fs) s0 f0 x u h) (fronts (take i out) n r ∙ ap (λ x. with_front x r) (sym (take_more_set out i n m))) all

pub field_refused : (fs : List Field) (i : ℕ) (d : Field) (ns : List Number) (e : DekuError) (s0 : Standing (Option Stream)) (f0 : Health) (s : Standing (Option Stream)) (f : Health) (t : Standing (Option Stream)) (g : Health)
    → i < length fs → Continues fs i ns s0 f0 s f → Outcome (ReadsField (get_or fs i d)) s f (Err e) t g → Outcome (ReadsFields fs) s0 f0 (Err e) t g
field_refused fs i d ns e s0 f0 s f t g l k o =
    let next : drop i fs ≡ get_or fs i d ∷ drop (i + 1) fs = drop_more fs i d l in
    k (Err e) t g (subst (λ x. Outcome (ReadsFields x) s f (Err e) t g) (sym next) (first_refused o))

pub fields_read : (fs : List Field) (i : ℕ) (out : List Number) (s0 : Standing (Option Stream)) (f0 : Health) (s : Standing (Option Stream)) (f : Health)
    → length fs ≤ i → length out ≤ i → Continues fs i (take i out) s0 f0 s f → Outcome (ReadsFields fs) s0 f0 (Ok out) s f
fields_read fs i out s0 f0 s f l m k =
    let none : drop i fs ≡ [] = drop_all i fs l in
    subst (λ x. Outcome (ReadsFields fs) s0 f0 (Ok x) s f) (append-nil (take i out) ∙ take_all i out m)
    (k (Ok []) s f (subst (λ x. Outcome (ReadsFields x) s f (Ok []) s f) (sym none) answered))

-- ---- items
-- the items from place i on may follow
abbrev pub GoesOn : List Item → ℕ → Standing Output → Health → Standing Output → Health → Type 0
GoesOn is i s0 f0 s f = (r : Result (Unit {0}) DekuError) (u : Standing Output) (h : Health)
    → Outcome (WritesItems (drop i is)) s f r u h → Outcome (WritesItems is) s0 f0 r u h

pub item_written : (is : List Item) (i : ℕ) (d : Item) (s0 : Standing Output) (f0 : Health) (s : Standing Output) (f : Health) (t : Standing Output) (g : Health)
    → i < length is → GoesOn is i s0 f0 s f → Outcome (WritesItem (get_or is i d)) s f (Ok tt) t g → GoesOn is (i + 1) s0 f0 t g
item_written is i d s0 f0 s f t g l k o r u h p =
    let next : drop i is ≡ get_or is i d ∷ drop (i + 1) is = drop_more is i d l in
    k r u h (subst (λ x. Outcome (WritesItems x) s f r u h) (sym next) (then_on o p))

pub item_refused : (is : List Item) (i : ℕ) (d : Item) (e : DekuError) (s0 : Standing Output) (f0 : Health) (s : Standing Output) (f : Health) (t : Standing Output) (g : Health)
    → i < length is → GoesOn is i s0 f0 s f → Outcome (WritesItem (get_or is i d)) s f (Err e) t g → Outcome (WritesItems is) s0 f0 (Err e) t g
item_refused is i d e s0 f0 s f t g l k o =
    let next : drop i is ≡ get_or is i d ∷ drop (i + 1) is = drop_more is i d l in
    k (Err e) t g (subst (λ x. Outcome (WritesItems x) s f (Err e) t g) (sym next) (first_refused o))

pub items_written : (is : List Item) (i : ℕ) (s0 : Standing Output) (f0 : Health) (s : Standing Output) (f : Health)
    → length is ≤ i → GoesOn is i s0 f0 s f → Outcome (WritesItems is) s0 f0 (Ok tt) s f
items_written is i s0 f0 s f l k =
    let none : drop i is ≡ [] = drop_all i is l in
    k (Ok tt) s f (subst (λ x. Outcome (WritesItems x) s f (Ok tt) s f) (sym none) answered)

-- the value is of its kind, and is written
pub item_passed : (i : Item) (v : Number) {t : NumberType} {s : Standing Output} {f : Health} {r : Result (Unit {0}) DekuError} {u : Standing Output} {g : Health} → i.value ≡ v → t ≡ number_type i.field.kind → IsOfKind i.field.kind i.value
    → Outcome (WritesNumber t i.field.layout (integer_of v)) s f r u g → Outcome (WritesItem i) s f r u g
item_passed i v {s} {f} {r} {u} {g} e k kind o =
    let of_kind = subst (λ n. Outcome (WritesNumber n i.field.layout (integer_of v)) s f r u g) k o in
    let of_item = subst (λ n. Outcome (WritesNumber (number_type i.field.kind) i.field.layout (integer_of n)) s f r u g) (sym e) of_kind in
    weaker (WritesNumber (number_type i.field.kind) i.field.layout (integer_of i.value)) (WritesItem i) s f r u g (λ b m. Passed (kind, m)) of_item

-- ---- the first of them
pub started : (fs : List Field) (out : List Number) (s : Standing (Option Stream)) (f : Health) → Continues fs 0 (take 0 out) s f s f
started fs out s f (Ok ns) u h o = o
started fs out s f (Err e) u h o = o

pub begun : (is : List Item) (s : Standing Output) (f : Health) → GoesOn is 0 s f s f
begun is s f r u h o = o
