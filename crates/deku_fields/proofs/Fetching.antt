-- How many bytes the fields of a list fetch, one after the other.
use Rattle.std.proofs.Common.{◌≡◌, ◌⊎◌, ℕ, ◌+◌, ◌*◌, ◌-◌, ◌<◌, ◌≤◌, ⊎_elim, Bool, false, List, [], ◌∷◌, ◌++◌, map, length, take, get_or, Option, Some, None, Ok, ℤ, refl, ap, sym, ◌∙◌, subst, inl, inr, arith}
use Rattle.std.specs.Prelude.{⊤}
use Rattle.std.proofs.lemmas.Bool.{cases_lt}
use Rattle.std.proofs.lemmas.List.{take_more, take_all}
use Rattle.deku_bits.specs.Bits.{groups}
use Rattle.deku_bits.specs.Pieces.{total}
use Rattle.deku_bits.specs.Streams.{Stream}
use Rattle.deku_bits.specs.Devices.{KnownSource, Loses}
use Rattle.deku_bits.specs.Standings.{Standing, Going, count_of, reader_state}
use Rattle.deku_bits.specs.Outcomes.{Quiet, Value, Refusal}
use Rattle.deku_bits.specs.ReaderCalls.{ReadsAt, TakesBits, FetchesFor, NoneEarly, window_of}
use Rattle.deku_bits.proofs.Handing.{meant}
use Rattle.deku_bits.proofs.Fetched.{takes_bits, takes_counted, loses_on, balance}
use Rattle.deku_num.specs.NumberCalls.{ReadsNumber, Refused, Passed}
use Rattle.deku.specs.Composing.{Answered, Second, First}
use Rattle.deku_fields.specs.declared.list.Number.{Number}
use Rattle.deku_fields.specs.declared.list.Field.{Field}
use Rattle.deku_fields.specs.Items.{number_type, field_width, field_shape}
use Rattle.deku_fields.specs.ListCalls.{ReadsField, ReadsFields, ReadsList}

-- ---- one field
-- the bits that a number took
number_took : (f : Field) (v : ℤ) (s u : Standing (Option Stream)) → ReadsNumber (number_type f.kind) f.layout false s (Ok v) u
    → (bits : List Bool) × TakesBits f.layout.order (field_width f) false s (Ok bits) u
number_took f v s u (Refused b p) = let e = p.2 in absurd (cc)
number_took f v s u (Passed p) = elim p.1 [
  | Value bits took e ↦ (bits, took)
  | Refusal x refused e ↦ absurd (cc)
]

-- the bits that a field took
pub field_took : (f : Field) (n : Number) (s u : Standing (Option Stream)) → ReadsField f false s (Ok n) u → (bits : List Bool) × TakesBits f.layout.order (field_width f) false s (Ok bits) u
field_took f n s u (Value v read e) = number_took f v s u read
field_took f n s u (Refusal x refused e) = absurd (cc)

-- the bits to come are fewer by those of the field
field_bits : (f : Field) (n : Number) (told after : KnownSource) (s u : Standing (List Bool)) (xs ys : List ℕ) → told.remaining ≡ Some xs → after.remaining ≡ Some ys
    → ReadsAt (ReadsField f) told s (Ok n) after u → length (window_of s) + 8 * length xs ≡ field_width f + (length (window_of u) + 8 * length ys)
field_bits f n told after s u xs ys d e read =
    let m = meant read in
    let took = field_took f n (reader_state told.remaining s) (reader_state after.remaining u) m.0 in
    takes_bits f.layout.order (field_width f) took.0 told after s u xs ys d e (Quiet took.1 m.1)

-- ---- fields
-- Fields of n bits were read, and the bytes to come are known: so many bytes were fetched, fewer
-- than eight bits are unread, or nothing was read.
abbrev pub Tally : ℕ → Standing (List Bool) → Option (List ℕ) → Standing (List Bool) → Option (List ℕ) → Type 0
Tally n s None u now = ⊤
Tally n s (Some bytes) u now = (k : ℕ) × Loses k (Some bytes) now × (length (window_of s) + 8 * k ≡ n + length (window_of u)) × ((length (window_of u) < 8) ⊎ ((n ≡ 0) × (k ≡ 0)))

pub tally_none : (s : Standing (List Bool)) (now : Option (List ℕ)) → Tally 0 s now s now
tally_none s None = tt
tally_none s (Some bytes) = (0, (omega arith, refl), omega arith, inr (refl, refl))

-- a read that fetches whole bytes into a window that is as it was reads nothing, or has fewer than
-- eight bits unread
short_window : (w : List Bool) (m n k j : ℕ) → (length w < 8) ⊎ ((n ≡ 0) × (k ≡ 0)) → length w + 8 * j ≡ m + length w → j ≡ groups (m - length w)
    → (length w < 8) ⊎ ((n + m ≡ 0) × (k + j ≡ 0))
short_window w m n k j (inl l) e f = inl l
short_window w m n k j (inr z) e f = ⊎_elim
    (λ (l : length w < 8). inl l)
    (λ (l : 8 ≤ length w). let none : j ≡ 0 = omega arith in inr (omega (arith, z.0, z.1), omega (arith, z.1)))
    (cases_lt (length w) 8)

tally_on : (m n : ℕ) (b d e : Option (List ℕ)) (s t u : Standing (List Bool)) → Tally n s b t d → Loses (groups (m - length (window_of t))) d e → NoneEarly t u
    → ((xs ys : List ℕ) → d ≡ Some xs → e ≡ Some ys → length (window_of t) + 8 * length xs ≡ m + (length (window_of u) + 8 * length ys)) → Tally (n + m) s b u e
tally_on m n None d e s t u before lost early bits = tt
tally_on m n (Some bytes) None e s t u before lost early bits = absurd (before.1)
tally_on m n (Some bytes) (Some xs) None s t u before lost early bits = absurd lost
tally_on m n (Some bytes) (Some xs) (Some ys) s t u before lost early bits =
    let j : ℕ = groups (m - length (window_of t)) in
    let even : length (window_of t) + 8 * j ≡ m + length (window_of u) = balance m j xs ys (window_of t) (window_of u) lost (bits xs ys refl refl) in (
      before.0 + j,
      loses_on before.0 j (Some bytes) (Some xs) (Some ys) before.1 lost,
      omega (arith, before.2, even),
      unread even early,
    )
  where
    unread : length (window_of t) + 8 * groups (m - length (window_of t)) ≡ m + length (window_of u) → NoneEarly t u
        → (length (window_of u) < 8) ⊎ ((n + m ≡ 0) × (before.0 + groups (m - length (window_of t)) ≡ 0))
    unread even (inl l) = inl l
    unread even (inr same) =
        let w : window_of u ≡ window_of t = ap window_of same in
        subst (λ x. (length x < 8) ⊎ ((n + m ≡ 0) × (before.0 + groups (m - length (window_of t)) ≡ 0))) (sym w)
        (short_window (window_of t) m n before.0 _ before.3 (omega (arith, even, ap length w)) refl)

-- one field more
pub tally_more : (fs : List Field) (i : ℕ) (d : Field) (n : Number) (first told after : KnownSource) (s t u : Standing (List Bool)) → i < length fs
    → Tally (total (map field_shape (take i fs))) s first.remaining t told.remaining → ReadsAt (ReadsField (get_or fs i d)) told t (Ok n) after u
    → FetchesFor (field_width (get_or fs i d)) t told after → NoneEarly t u → Tally (total (map field_shape (take (i + 1) fs))) s first.remaining u after.remaining
tally_more fs i d n first told after s t u l before read fetched early =
    let f : Field = get_or fs i d in
    let sum : total (map field_shape (take i fs)) + field_width f ≡ total (map field_shape (take (i + 1) fs)) =
    sym (total_last (take i fs) f) ∙ ap (λ x. total (map field_shape x)) (sym (take_more fs i d l)) in
    subst (λ x. Tally x s first.remaining u after.remaining) sum
    (tally_on (field_width f) _ first.remaining told.remaining after.remaining s t u before fetched early (λ xs ys e g. field_bits f n told after t u xs ys e g read))
  where
    total_last : (fs : List Field) (f : Field) → total (map field_shape (fs ++ f ∷ [])) ≡ total (map field_shape fs) + field_width f
    total_last [] f = omega arith
    total_last (g ∷ gs) f = let more = total_last gs f in omega (arith, more)

-- all fields: as many bytes were fetched as their bits need
pub tally_whole : (fs : List Field) (i : ℕ) (first after : KnownSource) (s u : Standing (List Bool)) → length fs ≤ i → Tally (total (map field_shape (take i fs))) s first.remaining u after.remaining
    → FetchesFor (total (map field_shape fs)) s first after
tally_whole fs i first after s u l tally =
    whole (total (map field_shape fs)) first.remaining after.remaining (subst (λ x. Tally (total (map field_shape x)) s first.remaining u after.remaining) (take_all i fs l) tally)
  where
    whole : (n : ℕ) (b d : Option (List ℕ)) → Tally n s b u d → Loses (groups (n - length (window_of s))) b d
    whole n None d t = tt
    whole n (Some bytes) d t =
        let most : groups (n - length (window_of s)) ≡ t.0 = elim t.3 [
          | inl few ↦ omega (arith, t.2, few)
          | inr none ↦ omega (arith, none.0, none.1)
        ] in
        rw most t.1

-- ---- bits that are counted
fields_counted : (fs : List Field) (ns : List Number) (s u : Standing (Option Stream)) → ReadsFields fs false s (Ok ns) u → count_of u ≡ count_of s + total (map field_shape fs)
fields_counted [] ns s u Answered = omega arith
fields_counted (f ∷ fs) ns s u (First x p e) = absurd (cc)
fields_counted (f ∷ fs) ns s u (Second n t p (Refusal x q e)) = absurd (cc)
fields_counted (f ∷ fs) ns s u (Second n t p (Value ms q e)) =
    let took = field_took f n s t p in
    let first : count_of t ≡ count_of s + field_width f = takes_counted f.layout.order (field_width f) took.0 s t took.1 in
    omega (arith, first, fields_counted fs ms t u q)

-- a list that is read from the first byte on counts the bits of its fields, and the bytes have them
pub bits_found : (fs : List Field) (ns : List Number) (bytes : List ℕ) (n : ℕ) (first after : Option (List ℕ)) (s : Standing (List Bool)) (t u : Standing (Option Stream))
    → ReadsList fs false t (Ok ns) u → count_of t ≡ 0 → n ≡ count_of u → first ≡ Some bytes → s ≡ Going [] 0
    → Loses (groups (total (map field_shape fs) - length (window_of s))) first after
    → (n ≡ total (map field_shape fs)) × (n ≤ 8 * length bytes)
bits_found fs ns bytes n first after s t u (inl refused) start counted tells new fetched = let e = refused.1 in absurd (cc)
bits_found fs ns bytes n first after s t u (inr read) start counted tells new fetched =
    let all : n ≡ total (map field_shape fs) = counted ∙ fields_counted fs ns t u read ∙ omega (arith, start) in
    let few : groups (total (map field_shape fs)) ≤ length bytes =
    enough after (subst (λ x. Loses (groups (total (map field_shape fs) - length (window_of x))) (Some bytes) after) new
    (subst (λ x. Loses (groups (total (map field_shape fs) - length (window_of s))) x after) tells fetched)) in
    (all, omega (arith, all, few))
  where
    enough : (d : Option (List ℕ)) → Loses (groups (total (map field_shape fs) - 0)) (Some bytes) d → groups (total (map field_shape fs)) ≤ length bytes
    enough None lost = absurd lost
    enough (Some ys) lost = omega (arith, lost.0)
