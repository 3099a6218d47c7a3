-- Reading one field after the other, from the laws that public calls ensure.
use Rattle.std.proofs.Common.{◌≡◌, ℕ, ◌+◌, ◌*◌, ◌^◌, ◌<◌, ◌≤◌, Bool, true, false, List, [], ◌∷◌, ◌++◌, length, map, take, drop, set, get_or, Option, Some, None, Result, Ok, Err, ℤ, pos, negsuc, refl, ap, sym, ◌∙◌, subst, subst₂, arith}
use Rattle.std.proofs.lemmas.List.{take_all, take_more_set, map_more, map-append, drop_more, take-append-drop}
use Rattle.deku_bits.specs.declared.error.DekuError.{DekuError}
use Rattle.deku_bits.specs.declared.ctx.Order.TheVariants.{Msb0}
use Rattle.deku_bits.specs.Streams.{Stream, fresh, left}
use Rattle.deku_bits.specs.Devices.{Health}
use Rattle.deku_bits.specs.Pieces.{total}
use Rattle.deku_bits.specs.Standings.{Standing, Going, count_of}
use Rattle.deku_bits.specs.Outcomes.{Outcome, Quiet, Value, Refusal}
use Rattle.deku_bits.proofs.Handing.{meant, mapped_ok, no_fewer_same, unbroken}
use Rattle.deku_bits.proofs.Reading.{left_none}
use Rattle.deku.proofs.Exact.{ok_is}
use Rattle.deku.proofs.Joining.{answered, first_refused, then_on}
use Rattle.deku_fields.specs.declared.list.Number.{Number}
use Rattle.deku_fields.specs.declared.list.Number.TheVariants.{Unsigned}
use Rattle.deku_fields.specs.declared.list.Field.{Field}
use Rattle.deku_fields.specs.declared.list.Item.{Item}
use Rattle.deku_fields.specs.Items.{number_type, field_shape, values_of}
use Rattle.deku_fields.specs.ListCalls.{ReadsField, ReadsFields, number_of, has_sign}
use Rattle.deku_fields.specs.Cuts.{ReadCallsLaw}
use Rattle.deku_fields.specs.Promise.{ReadBackLaw}
use Rattle.deku_plan.specs.Plans.{IsHigh}
use Rattle.deku_plan.specs.Records.{IsReadAt}
use Rattle.deku_c.specs.declared.codes.FieldCode.{FieldCode}
use Rattle.deku_c.specs.declared.codes.NumberCode.{NumberCode}
use Rattle.deku_c.specs.Codes.{field_in, fields_in, item_in, items_in, kind_in, number_in, whole}
use Rattle.deku_c.specs.Calls.{IsCodeAt, ReadsInto, ReadsBackInto}
use Rattle.deku_c.proofs.Coding.{items_more}

-- ---- one field
sign_of : (b : Bool) (z : ℤ) → has_sign (number_of b z) ≡ b
sign_of false (pos n) = refl
sign_of false (negsuc n) = refl
sign_of true z = refl

-- a number that is read has a sign or none, as the kind of its field
field_signed : (f : Field) (n : Number) (s u : Standing (Option Stream)) → ReadsField f false s (Ok n) u → has_sign n ≡ (number_type f.kind).signed
field_signed f n s u (Value x q e) = ap has_sign (ok_is _ _ e) ∙ sign_of (number_type f.kind).signed x
field_signed f n s u (Refusal k q e) = absurd (cc)

-- it is the value of its code
pub value_coded : (c : FieldCode) (f : Field) (n : Number) (v : NumberCode) (s u : Standing (Option Stream)) → f ≡ field_in c → ReadsField f false s (Ok n) u → number_in (has_sign n) (whole v) ≡ n
    → (item_in c v).value ≡ n
value_coded c f n v s u e read is =
    let signed : has_sign n ≡ (number_type (kind_in c.kind)).signed = field_signed f n s u read ∙ ap (λ x. (number_type x.kind).signed) e in
    ap (λ b. number_in b (whole v)) (sym signed) ∙ is

-- a field is read alone as a list of it
alone : (f : Field) (n : Number) {s : Standing (Option Stream)} {h : Health} {u : Standing (Option Stream)} {g : Health} → Outcome (ReadsField f) s h (Ok n) u g
    → Outcome (ReadsFields (f ∷ [])) s h (Ok (n ∷ [])) u g
alone f n o = then_on o (mapped_ok (λ ns. n ∷ ns) answered)

pub one_coded : (c : FieldCode) (f : Field) (n : Number) (v : NumberCode) {s : Standing (Option Stream)} {h : Health} {u : Standing (Option Stream)} {g : Health}
    → f ≡ field_in c → Outcome (ReadsField f) s h (Ok n) u g → number_in (has_sign n) (whole v) ≡ n → Outcome (ReadsFields (field_in c ∷ [])) s h (Ok (values_of (item_in c v ∷ []))) u g
one_coded c f n v {s} {h} {u} {g} e o is =
    subst₂ (λ x y. Outcome (ReadsFields (x ∷ [])) s h (Ok (y ∷ [])) u g) e (sym (value_coded c f n v s u e (meant o).0 is)) (alone f n o)

pub one_rejected : (c : FieldCode) (f : Field) (k : DekuError) {s : Standing (Option Stream)} {h : Health} {u : Standing (Option Stream)} {g : Health}
    → f ≡ field_in c → Outcome (ReadsField f) s h (Err k) u g → Outcome (ReadsFields (field_in c ∷ [])) s h (Err k) u g
one_rejected c f k {s} {h} {u} {g} e o = subst (λ x. Outcome (ReadsFields (x ∷ [])) s h (Err k) u g) e (first_refused o)

-- ---- fields
-- the first i fields were read, and these are their numbers
abbrev pub ReadSoFar : List FieldCode → List NumberCode → ℕ → Standing (Option Stream) → Health → Standing (Option Stream) → Health → Type 0
ReadSoFar cs vs i s0 f0 s f = Outcome (ReadsFields (fields_in (take i cs))) s0 f0 (Ok (values_of (items_in (take i cs) (take i vs)))) s f

pub none_read : (cs : List FieldCode) (vs : List NumberCode) (s : Standing (Option Stream)) (f : Health) → ReadSoFar cs vs 0 s f s f
none_read cs vs s f = answered

pub one_more : ReadCallsLaw → (cs : List FieldCode) (vs : List NumberCode) (i : ℕ) (d : FieldCode) (v : NumberCode) {s0 : Standing (Option Stream)} {f0 : Health} {s : Standing (Option Stream)} {f : Health} {t : Standing (Option Stream)} {g : Health}
    → i < length cs → i < length vs → ReadSoFar cs vs i s0 f0 s f → Outcome (ReadsFields (field_in (get_or cs i d) ∷ [])) s f (Ok (values_of (item_in (get_or cs i d) v ∷ []))) t g
    → ReadSoFar cs (set vs i v) (i + 1) s0 f0 t g
one_more law cs vs i d v {s0} {f0} {s} {f} {t} {g} l m before o =
    let c : FieldCode = get_or cs i d in
    let items : List Item = items_in (take i cs) (take i vs) in
    let both = law.both (fields_in (take i cs)) (field_in c ∷ []) s0 s t f0 f g (values_of items) (Ok (values_of (item_in c v ∷ []))) before o in
    let fields : fields_in (take (i + 1) cs) ≡ fields_in (take i cs) ++ field_in c ∷ [] = map_more field_in cs i d l in
    let next : items_in (take (i + 1) cs) (take (i + 1) (set vs i v)) ≡ items ++ item_in c v ∷ [] = items_more cs vs (set vs i v) i d v l m (take_more_set vs i v m) in
    let numbers : values_of (items_in (take (i + 1) cs) (take (i + 1) (set vs i v))) ≡ values_of items ++ values_of (item_in c v ∷ []) =
    ap values_of next ∙ map-append (λ x. x.value) items (item_in c v ∷ []) in
    subst₂ (λ x y. Outcome (ReadsFields x) s0 f0 (Ok y) t g) (sym fields) (sym numbers) both

pub one_refused : ReadCallsLaw → (cs : List FieldCode) (vs : List NumberCode) (i : ℕ) (d : FieldCode) (e : DekuError) {s0 : Standing (Option Stream)} {f0 : Health} {s : Standing (Option Stream)} {f : Health} {t : Standing (Option Stream)} {g : Health}
    → i < length cs → ReadSoFar cs vs i s0 f0 s f → Outcome (ReadsFields (field_in (get_or cs i d) ∷ [])) s f (Err e) t g → Outcome (ReadsFields (fields_in cs)) s0 f0 (Err e) t g
one_refused law cs vs i d e {s0} {f0} {s} {f} {t} {g} l before o =
    let c : FieldCode = get_or cs i d in
    let behind = law.refused (field_in c ∷ []) (fields_in (drop (i + 1) cs)) s t f g e o in
    let rest : fields_in (drop i cs) ≡ field_in c ∷ fields_in (drop (i + 1) cs) = ap fields_in (drop_more cs i d l) in
    let others : Outcome (ReadsFields (fields_in (drop i cs))) s f (Err e) t g = subst (λ x. Outcome (ReadsFields x) s f (Err e) t g) (sym rest) behind in
    let all = law.both (fields_in (take i cs)) (fields_in (drop i cs)) s0 s t f0 f g (values_of (items_in (take i cs) (take i vs))) (Err e) before others in
    let whole_list : fields_in (take i cs) ++ fields_in (drop i cs) ≡ fields_in cs = sym (map-append field_in (take i cs) (drop i cs)) ∙ ap fields_in (take-append-drop i cs) in
    subst (λ x. Outcome (ReadsFields x) s0 f0 (Err e) t g) whole_list all

pub all_read : (cs : List FieldCode) (vs : List NumberCode) (i : ℕ) {s0 : Standing (Option Stream)} {f0 : Health} {s : Standing (Option Stream)} {f : Health}
    → length cs ≤ i → length vs ≤ i → ReadSoFar cs vs i s0 f0 s f → Outcome (ReadsFields (fields_in cs)) s0 f0 (Ok (values_of (items_in cs vs))) s f
all_read cs vs i {s0} {f0} {s} {f} l m o =
    subst₂ (λ x y. Outcome (ReadsFields (fields_in x)) s0 f0 (Ok (values_of (items_in x y))) s f) (take_all i cs l) (take_all i vs m) o

-- ---- fields of bytes, from a bit on
-- the standing of a reader that has taken this many bits of the bytes
abbrev pub at_bit : List ℕ → ℕ → Standing (Option Stream)
at_bit bytes bit = Going (Some (left Msb0 bit (fresh bytes))) bit

-- nothing is known of the failures of bytes
abbrev pub calm : Health
calm = record { failures = Some 0; lenders = []; whole = None }

pub begins_at : (bytes : List ℕ) → at_bit bytes 0 ≡ Going (Some (fresh bytes)) 0
begins_at bytes = ap (λ S. Going (Some S) 0) (left_none Msb0 (fresh bytes))

pub high_coded : (c : FieldCode) (n : ℕ) (bytes : List ℕ) (bit end : ℕ) → IsHigh (field_in c) → IsReadAt (field_in c) bytes bit (Unsigned n) end → IsCodeAt c bytes bit (record { low = n; high = 0 }) end
high_coded c n bytes bit end high read =
    let plain : n + 2 ^ 64 * 0 ≡ n = omega arith in
    let value : number_in (number_type (kind_in c.kind)).signed (n + 2 ^ 64 * 0) ≡ Unsigned n = ap (λ b. number_in b (n + 2 ^ 64 * 0)) high.unsigned ∙ ap Unsigned plain in
    subst (λ x. IsReadAt (field_in c) bytes bit x end) (sym value) read

pub other_coded : (c : FieldCode) (f : Field) (n : Number) (v : NumberCode) (bytes : List ℕ) (bit end : ℕ) → f ≡ field_in c → IsReadAt f bytes bit n end → number_in (has_sign n) (whole v) ≡ n
    → IsCodeAt c bytes bit v end
other_coded c f n v bytes bit end e read is =
    subst₂ (λ x y. IsReadAt x bytes bit y end) e (sym (value_coded c f n v _ _ e read is)) read

pub one_cut : ReadCallsLaw → (cs : List FieldCode) (vs : List NumberCode) (i : ℕ) (d : FieldCode) (v : NumberCode) (bytes : List ℕ) (bit end : ℕ)
    → i < length cs → i < length vs → ReadSoFar cs vs i (at_bit bytes 0) calm (at_bit bytes bit) calm → IsCodeAt (get_or cs i d) bytes bit v end
    → ReadSoFar cs (set vs i v) (i + 1) (at_bit bytes 0) calm (at_bit bytes end) calm
one_cut law cs vs i d v bytes bit end l m before read =
    let c : FieldCode = get_or cs i d in
    one_more law cs vs i d v l m before (alone (field_in c) (item_in c v).value (Quiet read (no_fewer_same calm)))

pub all_cut : (cs : List FieldCode) (vs : List NumberCode) (i : ℕ) (bytes : List ℕ) (bit : ℕ) → length cs ≤ i → length vs ≤ i → ReadSoFar cs vs i (at_bit bytes 0) calm (at_bit bytes bit) calm
    → ReadsInto cs bytes (Ok bit) vs
all_cut cs vs i bytes bit l m o =
    let whole_list = unbroken refl refl (all_read cs vs i l m o) in
    (at_bit bytes bit, subst (λ s. ReadsFields (fields_in cs) false s (Ok (values_of (items_in cs vs))) (at_bit bytes bit)) (begins_at bytes) whole_list, refl)

-- ---- what is read back
pub read_back : ReadBackLaw → (cs : List FieldCode) (bytes : List ℕ) (r : Result ℕ DekuError) (vs : List NumberCode) → ReadsInto cs bytes r vs → ReadsBackInto cs bytes r vs
read_back law cs bytes (Ok n) vs m items after b small =
    let fs : List Field = fields_in cs in
    let k = law fs (Ok (values_of (items_in cs vs))) (Going (Some (fresh bytes)) 0) m.0 m.1 items bytes after 0 b refl (omega (arith, small)) in
    let bits : n ≡ 0 + total (map field_shape fs) = m.2 ∙ ap count_of k.1.stands in
    (ap Ok (omega (arith, bits)), ok_is _ _ k.0)
read_back law cs bytes (Err e) vs m items after b small =
    let k = law (fields_in cs) (Err e) (Going (Some (fresh bytes)) 0) m.0 m.1 items bytes after 0 b refl (omega (arith, small)) in
    let other = k.0 in
    absurd (cc)

-- what a reader from the first byte on gave
pub read_ok : (cs : List FieldCode) (bytes : List ℕ) (vs : List NumberCode) (n : ℕ) (s u : Standing (Option Stream)) → s ≡ Going (Some (fresh bytes)) 0
    → ReadsFields (fields_in cs) false s (Ok (values_of (items_in cs vs))) u → n ≡ count_of u → ReadsInto cs bytes (Ok n) vs
read_ok cs bytes vs n s u begin m e = (u, subst (λ x. ReadsFields (fields_in cs) false x (Ok (values_of (items_in cs vs))) u) begin m, e)

pub read_err : (cs : List FieldCode) (bytes : List ℕ) (vs : List NumberCode) (e : DekuError) (s u : Standing (Option Stream)) → s ≡ Going (Some (fresh bytes)) 0
    → ReadsFields (fields_in cs) false s (Err e) u → ReadsInto cs bytes (Err e) vs
read_err cs bytes vs e s u begin m = (u, subst (λ x. ReadsFields (fields_in cs) false x (Err e) u) begin m)
