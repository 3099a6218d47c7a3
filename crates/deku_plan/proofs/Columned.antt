-- One field of records: what is known of its values.
use Rattle.std.proofs.Common.{◌≡◌, ◌≢◌, ℕ, zero, suc, ◌+◌, ◌*◌, ◌/◌, ◌%◌, ◌<◌, ◌≤◌, ◌^◌, Bool, true, false, Option, Some, Ok, Err, Result, List, [], ◌∷◌, ◌++◌, map, length, take, set, get_or, All, refl, ap, sym, ◌∙◌, subst, arith, below_more, get_or-set_other, get_or-set_same, length-append}
use Rattle.std.proofs.lemmas.Option.{slice_get-get_or}
use Rattle.std.proofs.lemmas.List.{get_or_append_left, get_or-append-add}
use Rattle.deku_bits.specs.declared.ctx.Order.TheVariants.{Msb0}
use Rattle.deku_bits.specs.declared.error.DekuError.{DekuError}
use Rattle.deku_bits.specs.Devices.{Health}
use Rattle.deku_bits.specs.Standings.{Standing, Going}
use Rattle.deku_bits.specs.Outcomes.{Outcome}
use Rattle.deku_bits.proofs.Handing.{unbroken}
use Rattle.deku_bits.specs.Streams.{Stream, taken, left, fresh}
use Rattle.deku_bits.specs.Pieces.{total}
use Rattle.deku_num.specs.Numbers.{value, number, with_sign}
use Rattle.deku_fields.specs.declared.list.Number.{Number}
use Rattle.deku_fields.specs.declared.list.Number.TheVariants.{Unsigned}
use Rattle.deku_fields.specs.declared.list.Field.{Field}
use Rattle.deku_fields.specs.Items.{IsNumber, number_type, field_width, field_shape, IsAllowedField, IsWorth}
use Rattle.deku_fields.specs.ListCalls.{number_of, ReadsFields}
use Rattle.deku_plan.specs.Records.{records, IsStraight, AreAt, AreFirstAt, AreEachAt, IsColumn, HasColumn, ReadsAll}
use Rattle.deku_plan.proofs.EightCut.{taken_wide}
use Rattle.deku_plan.proofs.Recorded.{number_is, room, records_total, records_reads}
use Rattle.deku_plan.proofs.Steps.{no_field}
use Rattle.deku_plan.proofs.Wholly.{from_first}

abbrev pub no_number : Number
no_number = Unsigned 0

-- ---- one value more
-- the values below place m of a column are those at place i of groups of n
abbrev pub IsBelow : ℕ → ℕ → ℕ → List Number → List Number → Type 0
IsBelow n i m ns out = (k : ℕ) → k < m → get_or out k no_number ≡ get_or ns (k * n + i) no_number

pub below_first : (n i : ℕ) (ns out : List Number) → IsBelow n i 0 ns out
below_first n i ns out k h = absurd (omega (arith, h))

pub below_next : (n i m : ℕ) (ns ms out : List Number) (x : Number) → i < n → m < length out → length ns ≡ m * n → length ms ≡ n → x ≡ get_or ms i no_number → IsBelow n i m ns out
    → IsBelow n i (m + 1) (ns ++ ms) (set out m x)
below_next n i m ns ms out x inside l long longs is h =
    below_more (λ k. get_or (set out m x) k no_number ≡ get_or (ns ++ ms) (k * n + i) no_number) m
    (λ k lt.
    let other : k ≢ m = omega (arith, lt) in
    let fits : k * n + n ≤ m * n = room k m n lt in
    let front : k * n + i < length ns = omega (arith, fits, inside, long) in
    get_or-set_other out m k x no_number other ∙ h k lt ∙ sym (get_or_append_left ns ms no_number (k * n + i) front))
    (let at : m * n + i ≡ length ns + i = omega (arith, long) in
    get_or-set_same out m x no_number l ∙ is ∙ sym (ap (λ j. get_or (ns ++ ms) j no_number) at ∙ get_or-append-add ns ms i no_number))

-- all of them
pub below_all : (n i : ℕ) (ns out : List Number) → i < n → length ns ≡ length out * n → IsBelow n i (length out) ns out → IsColumn n i ns out
below_all n i ns out inside long h k lt =
    let fits : k * n + n ≤ length out * n = room k (length out) n lt in
    let there : k * n + i < length ns = omega (arith, fits, inside, long) in
    slice_get-get_or out k no_number lt ∙ ap Some (h k lt) ∙ sym (slice_get-get_or ns (k * n + i) no_number there)

-- ---- values that are cut from bytes
pub each_more : (f : Field) (bytes : List ℕ) (bits first m : ℕ) (out : List Number) (x : Number) → m < length out → AreFirstAt f bytes bits first m out
    → IsWorth f (taken Msb0 (field_width f) (left Msb0 (m * bits + first) (fresh bytes))) x → AreFirstAt f bytes bits first (m + 1) (set out m x)
each_more f bytes bits first m out x l h here k d lt =
    below_more (λ j. IsWorth f (taken Msb0 (field_width f) (left Msb0 (j * bits + first) (fresh bytes))) (get_or (set out m x) j d)) m
    (λ j less. let other : j ≢ m = omega (arith, less) in rw (get_or-set_other out m j x d other) (h j d less))
    (rw (get_or-set_same out m x d l) here) k lt

-- a bit of a record of whole bytes
pub bit_of : (k bits first : ℕ) → bits % 8 ≡ 0 → 8 * (k * (bits / 8) + first / 8) + first % 8 ≡ k * bits + first
bit_of k bits first e =
    let size : ℕ = bits / 8 in
    let wide : bits ≡ 8 * size = omega (arith, e) in
    let turned : k * (8 * size) ≡ 8 * (k * size) = omega arith in
    let all : k * bits ≡ 8 * (k * size) = ap (λ b. k * b) wide ∙ turned in
    omega (arith, all)

-- the bytes of such records
pub bytes_of : (n bits bytes : ℕ) → bits % 8 ≡ 0 → n * bits ≤ 8 * bytes → n * (bits / 8) ≤ bytes
bytes_of n bits bytes e h = omega (arith, h, bit_of n bits 0 e)

-- a list of bits is worth one number
worth_once : (f : Field) (s : List Bool) (n m : Number) → IsWorth f s n → IsWorth f s m → n ≡ m
worth_once f s n m p q =
    sym (number_is (number_type f.kind).signed (value (number_type f.kind) f.layout s) n p.worth)
    ∙ number_is (number_type f.kind).signed (value (number_type f.kind) f.layout s) m q.worth

signed_is : (b : Bool) (w n : ℕ) → IsNumber b (with_sign b w n) (number_of b (with_sign b w n))
signed_is false w n = refl
signed_is true w n = refl

-- each field of the bytes has a value
pub values_at : (fs : List Field) (bytes : List ℕ) (bit : ℕ) → bit + total (map field_shape fs) ≤ 8 * length bytes → (ns : List Number) × AreAt fs bytes bit ns
unfolding value
values_at [] bytes bit there = ([], tt)
values_at (f ∷ fs) bytes bit there =
    let w : ℕ = field_width f in
    let s : List Bool = taken Msb0 w (left Msb0 bit (fresh bytes)) in
    let b : Bool = (number_type f.kind).signed in
    let n : Number = number_of b (value (number_type f.kind) f.layout s) in
    let worth : IsWorth f s n = record { wide = taken_wide w bit bytes (omega (arith, there)); worth = signed_is b (length s) (number f.layout.endian f.layout.order s) } in
    let others = values_at fs bytes (bit + w) (omega (arith, there)) in
    (n ∷ others.0, (worth, others.1))

pub at_long : (fs : List Field) (bytes : List ℕ) (bit : ℕ) (ns : List Number) → AreAt fs bytes bit ns → length ns ≡ length fs
at_long [] bytes bit [] h = refl
at_long [] bytes bit (n ∷ ns) h = absurd h
at_long (f ∷ fs) bytes bit [] h = absurd h
at_long (f ∷ fs) bytes bit (n ∷ ns) h = ap suc (at_long fs bytes (bit + field_width f) ns h.1)

-- the value of one field of them
at_one : (fs : List Field) (bytes : List ℕ) (bit : ℕ) (ns : List Number) (j at : ℕ) → j < length fs → at ≡ bit + total (map field_shape (take j fs)) → AreAt fs bytes bit ns
    → IsWorth (get_or fs j no_field) (taken Msb0 (field_width (get_or fs j no_field)) (left Msb0 at (fresh bytes))) (get_or ns j no_number)
at_one [] bytes bit ns j at l e h = absurd (omega (arith, l))
at_one (f ∷ fs) bytes bit [] j at l e h = absurd h
at_one (f ∷ fs) bytes bit (n ∷ ns) zero at l e h = let same : bit ≡ at = omega (arith, e) in subst (λ b. IsWorth f (taken Msb0 (field_width f) (left Msb0 b (fresh bytes))) n) same h.0
at_one (f ∷ fs) bytes bit (n ∷ ns) (suc j) at l e h = at_one fs bytes (bit + field_width f) ns j at (omega (arith, l)) (omega (arith, e)) h.1

-- ---- fields of records
records_long : (count : ℕ) (fs : List Field) → length (records count fs) ≡ count * length fs
records_long zero fs = omega arith
records_long (suc n) fs = let h = records_long n fs in omega (arith, h, length-append fs (records n fs))

records_at : (count k i : ℕ) (fs : List Field) → k < count → i < length fs → get_or (records count fs) (k * length fs + i) no_field ≡ get_or fs i no_field
records_at zero k i fs l h = absurd (omega (arith, l))
records_at (suc n) zero i fs l h = let same : 0 * length fs + i ≡ i = omega arith in ap (λ j. get_or (fs ++ records n fs) j no_field) same ∙ get_or_append_left fs (records n fs) no_field i h
records_at (suc n) (suc k) i fs l h =
    let same : suc k * length fs + i ≡ length fs + (k * length fs + i) = omega arith in
    ap (λ j. get_or (fs ++ records n fs) j no_field) same ∙ get_or-append-add fs (records n fs) (k * length fs + i) no_field ∙ records_at n k i fs (omega (arith, l)) h

total_split : (j : ℕ) (fs gs : List Field) → j ≤ length fs → total (map field_shape (take j (fs ++ gs))) ≡ total (map field_shape (take j fs))
total_split zero fs gs h = refl
total_split (suc j) [] gs h = absurd (omega (arith, h))
total_split (suc j) (f ∷ fs) gs h = let t = total_split j fs gs (omega (arith, h)) in omega (arith, t)

total_past : (j : ℕ) (fs gs : List Field) → total (map field_shape (take (length fs + j) (fs ++ gs))) ≡ total (map field_shape fs) + total (map field_shape (take j gs))
total_past j [] gs = let none : 0 + j ≡ j = omega arith in ap (λ n. total (map field_shape (take n gs))) none ∙ omega arith
total_past j (f ∷ fs) gs =
    let next : suc (length fs) + j ≡ suc (length fs + j) = omega arith in
    let t = total_past j fs gs in
    ap (λ n. total (map field_shape (take n (f ∷ (fs ++ gs))))) next ∙ omega (arith, t)

records_offset : (count k i : ℕ) (fs : List Field) → k < count → i < length fs
    → total (map field_shape (take (k * length fs + i) (records count fs))) ≡ k * total (map field_shape fs) + total (map field_shape (take i fs))
records_offset zero k i fs l h = absurd (omega (arith, l))
records_offset (suc n) zero i fs l h =
    let same : 0 * length fs + i ≡ i = omega arith in
    ap (λ j. total (map field_shape (take j (fs ++ records n fs)))) same ∙ total_split i fs (records n fs) (omega (arith, h)) ∙ omega arith
records_offset (suc n) (suc k) i fs l h =
    let same : suc k * length fs + i ≡ length fs + (k * length fs + i) = omega arith in
    let t = records_offset n k i fs (omega (arith, l)) h in
    ap (λ j. total (map field_shape (take j (fs ++ records n fs)))) same ∙ total_past (k * length fs + i) fs (records n fs) ∙ omega (arith, t)

-- a column that is cut from bytes is that of what the fields read from them
pub column_reads : (fs : List Field) (count i : ℕ) (bytes : List ℕ) (bits first : ℕ) (column : List Number) → All IsAllowedField fs → All IsStraight fs → i < length fs
    → length column ≡ count → bits ≡ total (map field_shape fs) → first ≡ total (map field_shape (take i fs)) → count * total (map field_shape fs) < 2 ^ 64 → count * total (map field_shape fs) ≤ 8 * length bytes
    → AreEachAt (get_or fs i no_field) bytes bits first column → HasColumn fs i (ReadsAll (records count fs) bytes) (Ok column)
column_reads fs count i bytes bits first column allowed straight inside long wide begins counted there each =
    let all : List Field = records count fs in
    let n : ℕ = length fs in
    let f : Field = get_or fs i no_field in
    let many : total (map field_shape all) ≡ count * total (map field_shape fs) = records_total count fs in
    let have = values_at all bytes 0 (omega (arith, many, there)) in
    let ns : List Number = have.0 in
    let longs : length ns ≡ length column * n = at_long all bytes 0 ns have.1 ∙ records_long count fs ∙ ap (λ c. c * n) (sym long) in
    let same : IsBelow n i (length column) ns column = λ k lt.
    let less : k < count = omega (arith, lt, long) in
    let fits : k * n + n ≤ count * n = room k count n less in
    let place : k * n + i < length all = omega (arith, fits, inside, records_long count fs) in
    let at : k * bits + first ≡ 0 + total (map field_shape (take (k * n + i) all)) = ap (λ b. k * b + first) wide ∙ ap (λ b. k * total (map field_shape fs) + b) begins ∙ sym (records_offset count k i fs less inside) ∙ omega arith in
    let one = at_one all bytes 0 ns (k * n + i) (k * bits + first) place at have.1 in
    let here : IsWorth f (taken Msb0 (field_width f) (left Msb0 (k * bits + first) (fresh bytes))) (get_or ns (k * n + i) no_number) =
    subst (λ g. IsWorth g (taken Msb0 (field_width g) (left Msb0 (k * bits + first) (fresh bytes))) (get_or ns (k * n + i) no_number)) (records_at count k i fs less inside) one in
    worth_once f _ _ _ (each k no_number lt) here in
    (ns, records_reads fs count bytes ns allowed straight counted there have.1, below_all n i ns column inside longs same)

-- records that were read one after the other are those of the bytes
pub column_begun : (fs : List Field) (count i : ℕ) (bytes : List ℕ) (s u : Standing (Option Stream)) (f g : Health) (r : Result (List Number) DekuError) → f.failures ≡ Some 0 → g.failures ≡ Some 0 → s ≡ Going (Some (fresh bytes)) 0
    → HasColumn fs i (λ x. Outcome (ReadsFields (records count fs)) s f x u g) r → HasColumn fs i (ReadsAll (records count fs) bytes) r
column_begun fs count i bytes s u f g (Ok column) p q e h = (h.0, from_first (records count fs) bytes (Ok h.0) s u e (unbroken p q h.1), h.2)
column_begun fs count i bytes s u f g (Err x) p q e h = from_first (records count fs) bytes (Err x) s u e (unbroken p q h)
