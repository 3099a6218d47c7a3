-- Values that are cut from bytes are what the fields read from them.
use Rattle.std.proofs.Common.{◌≡◌, ℕ, zero, suc, ◌+◌, ◌*◌, ◌<◌, ◌≤◌, ◌^◌, Bool, true, false, Some, Ok, List, [], ◌∷◌, ◌++◌, map, length, take, drop, set, get_or, All, ℤ, pos, negsuc, refl, ap, sym, ◌∙◌, subst, subst₂, inl, inr, arith, append_assoc, take-append-drop}
use Rattle.std.proofs.lemmas.List.{take_more, take_more_set}
use Rattle.std.proofs.lemmas.Slice.{take-put_mid}
use borrow.Rule.Slice.PartMut.{put_mid}
use Rattle.std.proofs.Math.Nat.{mul-le-mul_right}
use Rattle.std.proofs.lemmas.List.Elements.{All-head, All-tail, All-nil, All-append}
use Rattle.deku_bits.specs.declared.ctx.Order.TheVariants.{Msb0}
use Rattle.deku_bits.specs.Streams.{Stream, Has, taken, left, fresh}
use Rattle.deku_bits.specs.Pieces.{total}
use Rattle.deku_bits.specs.Standings.{Going}
use Rattle.deku_bits.specs.Outcomes.{Value}
use Rattle.deku_bits.proofs.Taking.{cut_law}
use Rattle.deku_bits.proofs.Reading.{left_none}
use Rattle.deku_num.specs.Numbers.{value}
use Rattle.deku_num.specs.NumberCalls.{Passed}
use Rattle.deku.specs.Composing.{Answered, Second}
use Rattle.deku_fields.specs.declared.list.Number.{Number}
use Rattle.deku_fields.specs.declared.list.Number.TheVariants.{Unsigned, Signed}
use Rattle.deku_fields.specs.declared.list.Field.{Field}
use Rattle.deku_fields.specs.Items.{IsNumber, number_type, field_width, field_shape, IsAllowedField, IsWorth, ReadsValues}
use Rattle.deku_fields.specs.ListCalls.{number_of, ReadsField, ReadsFields}
use Rattle.deku_plan.specs.declared.step.Step.{Step}
use Rattle.deku_plan.specs.Plans.{AreSteps}
use Rattle.deku_plan.proofs.Steps.{step_at}
use Rattle.deku_plan.specs.Records.{records, IsStraight, IsReadAt, AreAt, ReadsAll}

-- ---- records
pub records_more : (n : ℕ) (fs : List Field) → records (suc n) fs ≡ records n fs ++ fs
records_more zero fs = append-nil' fs
  where
    append-nil' : (xs : List Field) → xs ++ [] ≡ xs
    append-nil' [] = refl
    append-nil' (x ∷ xs) = ap (λ ys. x ∷ ys) (append-nil' xs)
records_more (suc n) fs = ap (λ x. fs ++ x) (records_more n fs) ∙ sym (append_assoc fs (records n fs) fs)

pub records_cut : (m n : ℕ) (fs : List Field) → records (m + n) fs ≡ records m fs ++ records n fs
records_cut zero n fs = ap (λ k. records k fs) (omega arith)
records_cut (suc m) n fs =
    let next : suc m + n ≡ suc (m + n) = omega arith in
    ap (λ k. records k fs) next ∙ ap (λ x. fs ++ x) (records_cut m n fs) ∙ sym (append_assoc fs (records m fs) (records n fs))

pub total_append : (fs gs : List Field) → total (map field_shape (fs ++ gs)) ≡ total (map field_shape fs) + total (map field_shape gs)
total_append [] gs = omega arith
total_append (f ∷ fs) gs = omega (arith, total_append fs gs)

pub records_total : (n : ℕ) (fs : List Field) → total (map field_shape (records n fs)) ≡ n * total (map field_shape fs)
records_total zero fs = omega arith
records_total (suc n) fs = let h = records_total n fs in omega (arith, total_append fs (records n fs), h)

-- ---- values at bits
pub at_append : (fs gs : List Field) (bytes : List ℕ) (bit next : ℕ) (ns ms : List Number) → next ≡ bit + total (map field_shape fs) → AreAt fs bytes bit ns → AreAt gs bytes next ms
    → AreAt (fs ++ gs) bytes bit (ns ++ ms)
at_append [] gs bytes bit next [] ms e h k = let same : next ≡ bit = omega (arith, e) in subst (λ b. AreAt gs bytes b ms) same k
at_append [] gs bytes bit next (n ∷ ns) ms e h k = absurd h
at_append (f ∷ fs) gs bytes bit next [] ms e h k = absurd h
at_append (f ∷ fs) gs bytes bit next (n ∷ ns) ms e h k = (h.0, at_append fs gs bytes (bit + field_width f) next ns ms (omega (arith, e)) h.1 k)

pub reads_at : (fs : List Field) (bytes : List ℕ) (bit end : ℕ) (ns : List Number) → All IsStraight fs → end ≡ bit + total (map field_shape fs) → end ≤ 8 * length bytes → AreAt fs bytes bit ns
    → ReadsValues fs (left Msb0 bit (fresh bytes)) ns (left Msb0 end (fresh bytes))
reads_at [] bytes bit end [] all e there h = let same : bit ≡ end = omega (arith, e) in ap (λ b. left Msb0 b (fresh bytes)) same
reads_at [] bytes bit end (n ∷ ns) all e there h = absurd h
reads_at (f ∷ fs) bytes bit end [] all e there h = absurd h
reads_at (f ∷ fs) bytes bit end (n ∷ ns) all e there h =
    let w : ℕ = field_width f in
    let S : Stream = left Msb0 bit (fresh bytes) in
    let cut = cut_law Msb0 bit w (fresh bytes) (omega arith) (omega (arith, e, there)) in
    let others = reads_at fs bytes (bit + w) end ns (All-tail IsStraight f fs all) (omega (arith, e)) there h.1 in
    subst (λ o. Has w S × IsWorth f (taken o w S) n × ReadsValues fs (left o w S) ns (left Msb0 end (fresh bytes))) (sym (All-head IsStraight f fs all).high)
    (cut.3, h.0, subst (λ T. ReadsValues fs T ns (left Msb0 end (fresh bytes))) cut.1 others)

-- ---- what the fields read
pub number_is : (b : Bool) (v : ℤ) (n : Number) → IsNumber b v n → number_of b v ≡ n
number_is false (pos m) (Unsigned n) e = ap Unsigned (let f : pos m ≡ pos n = e in cc)
number_is false (negsuc m) (Unsigned n) e = absurd (cc)
number_is false v (Signed z) e = absurd e
number_is true v (Unsigned n) e = absurd e
number_is true v (Signed z) e = ap Signed e

field_reads : (f : Field) (S : Stream) (n : Number) (c : ℕ) → IsAllowedField f → Has (field_width f) S → IsWorth f (taken f.layout.order (field_width f) S) n → c + field_width f < 2 ^ 64
    → ReadsField f false (Going (Some S) c) (Ok n) (Going (Some (left f.layout.order (field_width f) S)) (c + field_width f))
field_reads f S n c ok has worth room =
    let v : ℤ = value (number_type f.kind) f.layout (taken f.layout.order (field_width f) S) in
    Value v (Passed (ok, Value (taken f.layout.order (field_width f) S) (inr (room, inl (has, refl, refl))) refl))
    (ap Ok (sym (number_is (number_type f.kind).signed v n worth.worth)))

-- a value at a bit is what the field reads there
pub value_reads : (f : Field) (bytes : List ℕ) (bit end : ℕ) (n : Number) → IsAllowedField f → f.layout.order ≡ Msb0 → end ≡ bit + field_width f → end < 2 ^ 64 → end ≤ 8 * length bytes
    → IsWorth f (taken Msb0 (field_width f) (left Msb0 bit (fresh bytes))) n → IsReadAt f bytes bit n end
value_reads f bytes bit end n ok high e room there worth =
    let w : ℕ = field_width f in
    let S : Stream = left Msb0 bit (fresh bytes) in
    let cut = cut_law Msb0 bit w (fresh bytes) (omega arith) (omega (arith, e, there)) in
    let here : IsWorth f (taken f.layout.order w S) n = subst (λ o. IsWorth f (taken o w S) n) (sym high) worth in
    let read = field_reads f S n bit ok cut.3 here (omega (arith, e, room)) in
    let after : left f.layout.order w S ≡ left Msb0 (bit + w) (fresh bytes) = ap (λ o. left o w S) high ∙ sym cut.1 in
    subst₂ (λ x y. ReadsField f false (Going (Some S) bit) (Ok n) (Going (Some x) y)) (after ∙ ap (λ k. left Msb0 k (fresh bytes)) (sym e)) (sym e) read

pub fields_reads : (fs : List Field) (ns : List Number) (S T : Stream) (c : ℕ) → All IsAllowedField fs → ReadsValues fs S ns T → c + total (map field_shape fs) < 2 ^ 64
    → ReadsFields fs false (Going (Some S) c) (Ok ns) (Going (Some T) (c + total (map field_shape fs)))
fields_reads [] [] S T c ok r room =
    let n : c + 0 ≡ c = omega arith in
    rw (n, ← r) Answered
fields_reads [] (n ∷ ns) S T c ok r room = absurd r
fields_reads (f ∷ fs) [] S T c ok r room = absurd r
fields_reads (f ∷ fs) (n ∷ ns) S T c ok r room =
    let w : ℕ = field_width f in
    let R : Stream = left f.layout.order w S in
    let sum : c + w + total (map field_shape fs) ≡ c + (w + total (map field_shape fs)) = omega arith in
    subst (λ x. ReadsFields (f ∷ fs) false (Going (Some S) c) (Ok (n ∷ ns)) (Going (Some T) x)) sum
    (Second n (Going (Some R) (c + w)) (field_reads f S n c (All-head IsAllowedField f fs ok) r.0 r.1 (omega arith))
    (Value ns (fields_reads fs ns R T (c + w) (All-tail IsAllowedField f fs ok) r.2 (omega arith)) refl))

-- ---- one field more
pub total_more : (fs : List Field) (i : ℕ) (d : Field) → i < length fs → total (map field_shape (take (i + 1) fs)) ≡ total (map field_shape (take i fs)) + field_width (get_or fs i d)
total_more fs i d h = ap (λ x. total (map field_shape x)) (take_more fs i d h) ∙ total_append (take i fs) (get_or fs i d ∷ []) ∙ omega arith

pub total_front : (fs : List Field) (i : ℕ) → total (map field_shape (take i fs)) ≤ total (map field_shape fs)
total_front fs i =
    let whole : total (map field_shape fs) ≡ total (map field_shape (take i fs)) + total (map field_shape (drop i fs)) =
    ap (λ x. total (map field_shape x)) (sym (take-append-drop i fs)) ∙ total_append (take i fs) (drop i fs) in
    omega (arith, whole)

pub at_more : (fs : List Field) (i : ℕ) (d : Field) (bytes : List ℕ) (bit at : ℕ) (out : List Number) (n : Number) → i < length fs → i < length out → at ≡ bit + total (map field_shape (take i fs))
    → AreAt (take i fs) bytes bit (take i out) → IsWorth (get_or fs i d) (taken Msb0 (field_width (get_or fs i d)) (left Msb0 at (fresh bytes))) n
    → AreAt (take (i + 1) fs) bytes bit (take (i + 1) (set out i n))
at_more fs i d bytes bit at out n h k e before here =
    subst₂ (λ x y. AreAt x bytes bit y) (sym (take_more fs i d h)) (sym (take_more_set out i n k))
    (at_append (take i fs) (get_or fs i d ∷ []) bytes bit at (take i out) (n ∷ []) e before (here, tt))

-- ---- one record more
pub at_record : (fs : List Field) (i : ℕ) (bytes : List ℕ) (bit : ℕ) (ns ms : List Number) → bit ≡ i * total (map field_shape fs) → AreAt (records i fs) bytes 0 ns → AreAt fs bytes bit ms
    → AreAt (records (i + 1) fs) bytes 0 (ns ++ ms)
at_record fs i bytes bit ns ms e before here =
    let next : i + 1 ≡ suc i = omega arith in
    let begins : bit ≡ 0 + total (map field_shape (records i fs)) = omega (arith, e, records_total i fs) in
    subst (λ x. AreAt x bytes 0 (ns ++ ms)) (sym (ap (λ k. records k fs) next ∙ records_more i fs))
    (at_append (records i fs) fs bytes 0 bit ns ms begins before here)

-- the values of one record more, put into their places
pub at_put : (fs : List Field) (i : ℕ) (bytes : List ℕ) (bit place next k : ℕ) (out ms : List Number) → bit ≡ i * total (map field_shape fs) → place ≤ length out → next ≡ place + length ms
    → AreAt (records i fs) bytes 0 (take place out) → AreAt fs bytes bit ms → AreAt (records (i + 1) fs) bytes 0 (take next (put_mid place k out ms))
at_put fs i bytes bit place next k out ms e inside n before here =
    rw (take-put_mid place k out ms next n inside) (at_record fs i bytes bit (take place out) ms e before here)

pub all_records : (P : Field → Type 0) (fs : List Field) (n : ℕ) → All P fs → All P (records n fs)
all_records P fs zero h = All-nil P
all_records P fs (suc n) h = All-append P fs (records n fs) h (all_records P fs n h)

-- all records that the bytes have
pub records_reads : (fs : List Field) (count : ℕ) (bytes : List ℕ) (ns : List Number) → All IsAllowedField fs → All IsStraight fs → count * total (map field_shape fs) < 2 ^ 64
    → count * total (map field_shape fs) ≤ 8 * length bytes → AreAt (records count fs) bytes 0 ns → ReadsAll (records count fs) bytes (Ok ns)
records_reads fs count bytes ns allowed straight room there h =
    let all : List Field = records count fs in
    let n : ℕ = total (map field_shape all) in
    let is : n ≡ count * total (map field_shape fs) = records_total count fs in
    let T : Stream = left Msb0 n (fresh bytes) in
    let read : ReadsValues all (fresh bytes) ns T = subst (λ S. ReadsValues all S ns T) (left_none Msb0 (fresh bytes))
    (reads_at all bytes 0 n ns (all_records IsStraight fs count straight) (omega arith) (omega (arith, is, there)) h) in
    (Going (Some T) (0 + n), fields_reads all ns (fresh bytes) T 0 (all_records IsAllowedField fs count allowed) read (omega (arith, is, room)))

-- ---- steps of straight fields
pub step_some : (fs : List Field) (ss : List Step) (i : ℕ) (d : Field) (e : Step) → AreSteps fs ss → All IsStraight fs → i < length fs → 0 < (get_or ss i e).width
step_some fs ss i d e h all l = omega (arith, (all i d l).some, (step_at fs ss i d e h l).wide)

pub step_few : (fs : List Field) (ss : List Step) (i : ℕ) (d : Field) (e : Step) → AreSteps fs ss → All IsStraight fs → i < length fs → (get_or ss i e).width ≤ 64
step_few fs ss i d e h all l = omega (arith, (all i d l).few, (step_at fs ss i d e h l).wide)

pub step_next : (fs : List Field) (ss : List Step) (i : ℕ) (d : Field) (e : Step) → AreSteps fs ss → i < length fs
    → total (map field_shape (take (i + 1) fs)) ≡ total (map field_shape (take i fs)) + (get_or ss i e).width
step_next fs ss i d e h l = omega (arith, total_more fs i d l, (step_at fs ss i d e h l).wide)

pub step_within : (fs : List Field) (ss : List Step) (i : ℕ) (d : Field) (e : Step) → AreSteps fs ss → i < length fs
    → total (map field_shape (take i fs)) + (get_or ss i e).width ≤ total (map field_shape fs)
step_within fs ss i d e h l = omega (arith, step_next fs ss i d e h l, total_front fs (i + 1))

-- one record more is among them all
pub room : (i n k : ℕ) → i < n → i * k + k ≤ n * k
room i n k h =
    let next : (i + 1) * k ≡ i * k + k = omega arith in
    let most : (i + 1) * k ≤ n * k = mul-le-mul_right k (omega (arith, h)) in
    omega (arith, next, most)
