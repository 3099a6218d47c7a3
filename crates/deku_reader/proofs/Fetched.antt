-- How many bytes were fetched: the bits of a stream, before a read or a look and after it.
use Rattle.std.proofs.Common.{◌≡◌, ℕ, ◌+◌, ◌*◌, Bool, false, List, length, drop, Option, Some, None, Ok, refl, ap, sym, ◌∙◌, subst, inl, inr, arith}
use Rattle.std.proofs.lemmas.List.{length-drop, drop-drop}
use Rattle.deku_stream.specs.declared.ctx.Order.{Order}
use Rattle.deku_stream.specs.Streams.{Stream, bit_count, left, normal}
use Rattle.deku_device.specs.Devices.{KnownSource, Loses}
use Rattle.deku_stream.specs.Standings.{Standing, Going, Stopped, count_of, stream_of, reader_state}
use Rattle.deku_reader.specs.ReaderCalls.{ReadsAt, Transfers, TakesBits, Peeks, Ending, HasFetched, FetchLaw, window_of}
use Rattle.deku_stream.proofs.Handing.{meant}
use Rattle.deku_reader.proofs.Moving.{at, normal-count}
use Rattle.deku_reader.proofs.Skips.{left_count}

-- ---- a state that is known
-- the count of a reader is that of its state
same_count : (now : Option (List ℕ)) (s : Standing (List Bool)) → count_of (reader_state now s) ≡ count_of s
same_count now (Going w c) = refl
same_count now (Stopped v f c) = refl

-- the bits of its stream are those unread and those to come
stream_bits : (ys : List ℕ) (u : Standing (List Bool)) (T : Stream) (c : ℕ) → reader_state (Some ys) u ≡ Going (Some T) c
    → length (window_of u) + 8 * length ys ≡ bit_count T
stream_bits ys (Stopped v f k) T c e = absurd (cc)
stream_bits ys (Going w k) T c e =
    let same : normal (at w ys) ≡ T = cc in
    sym (normal-count (at w ys)) ∙ ap bit_count same

-- ---- a read
-- n bits more are counted
transfer_counted : (o : Order) (n c : ℕ) (S : Option Stream) (bits : List Bool) (u : Standing (Option Stream)) → Transfers o n S c (Ok bits) u → count_of u ≡ c + n
transfer_counted o n c (Some S) bits u (inl took) = ap count_of took.2
transfer_counted o n c (Some S) bits u (inr ended) = let e = ended.1.0 in absurd (cc)
transfer_counted o n c None bits u (inl took) = ap count_of took.4
transfer_counted o n c None bits u (inr ended) = let e = ended.0 in absurd (cc)

pub takes_counted : (o : Order) (n : ℕ) (bits : List Bool) (s u : Standing (Option Stream)) → TakesBits o n false s (Ok bits) u → count_of u ≡ count_of s + n
takes_counted o n bits (Stopped v f c) u took = let e = took.0 in absurd (cc)
takes_counted o n bits (Going S c) u (inl refused) = let e = refused.1.2 in absurd (cc)
takes_counted o n bits (Going S c) u (inr may) = transfer_counted o n c S bits u may.1

reads_counted : (o : Order) (n : ℕ) (bits : List Bool) (told after : KnownSource) (s u : Standing (List Bool)) → ReadsAt (TakesBits o n) told s (Ok bits) after u → count_of u ≡ count_of s + n
reads_counted o n bits told after s u reads =
    sym (same_count after.remaining u) ∙ takes_counted o n bits (reader_state told.remaining s) (reader_state after.remaining u) (meant reads).0 ∙ ap (λ k. k + n) (same_count told.remaining s)

-- the bits to come are n fewer
transfer_bits : (o : Order) (n c : ℕ) (w : List Bool) (xs ys : List ℕ) (bits : List Bool) (u : Standing (List Bool)) → Transfers o n (stream_of w (Some xs)) c (Ok bits) (reader_state (Some ys) u)
    → length w + 8 * length xs ≡ n + (length (window_of u) + 8 * length ys)
transfer_bits o n c w xs ys bits u (inr ended) = let e = ended.1.0 in absurd (cc)
transfer_bits o n c w xs ys bits u (inl took) =
    let S : Stream = normal (at w xs) in
    omega (arith, normal-count (at w xs), left_count o n S took.0, stream_bits ys u (left o n S) (c + n) took.2)

pub takes_bits : (o : Order) (n : ℕ) (bits : List Bool) (told after : KnownSource) (s u : Standing (List Bool)) (xs ys : List ℕ) → told.remaining ≡ Some xs → after.remaining ≡ Some ys
    → ReadsAt (TakesBits o n) told s (Ok bits) after u → length (window_of s) + 8 * length xs ≡ n + (length (window_of u) + 8 * length ys)
takes_bits o n bits told after (Stopped v f c) u xs ys e d reads = let x = (meant reads).0.0 in absurd (cc)
takes_bits o n bits told after (Going w c) u xs ys e d reads = elim (meant reads).0 [
  | inl refused ↦ let x = refused.1.2 in absurd (cc)
  | inr may ↦ transfer_bits o n c w xs ys bits u (subst (λ t. Transfers o n (stream_of w (Some xs)) c (Ok bits) (reader_state t u)) d (subst (λ t. Transfers o n (stream_of w t) c (Ok bits) (reader_state after.remaining u)) e may.1))
]

-- ---- a look
looked_counted : (c : ℕ) (S : Option Stream) (at_end : Bool) (u : Standing (Option Stream)) → Peeks S c (Ok at_end) u → count_of u ≡ c
looked_counted c (Some S) at_end u p = ap count_of p.1
looked_counted c None at_end u p = ap count_of p.3

looks_counted : (at_end : Bool) (told after : KnownSource) (s u : Standing (List Bool)) → ReadsAt Ending told s (Ok at_end) after u → count_of u ≡ count_of s
looks_counted at_end told after (Stopped v f c) u reads = let e = (meant reads).0.0 in absurd (cc)
looks_counted at_end told after (Going w c) u reads = sym (same_count after.remaining u) ∙ looked_counted c (stream_of w told.remaining) at_end (reader_state after.remaining u) (meant reads).0

looks_bits : (at_end : Bool) (told after : KnownSource) (s u : Standing (List Bool)) (xs ys : List ℕ) → told.remaining ≡ Some xs → after.remaining ≡ Some ys
    → ReadsAt Ending told s (Ok at_end) after u → length (window_of s) + 8 * length xs ≡ length (window_of u) + 8 * length ys
looks_bits at_end told after (Stopped v f c) u xs ys e d reads = let x = (meant reads).0.0 in absurd (cc)
looks_bits at_end told after (Going w c) u xs ys e d reads =
    let p : Peeks (stream_of w (Some xs)) c (Ok at_end) (reader_state (Some ys) u) =
    subst (λ t. Peeks (stream_of w (Some xs)) c (Ok at_end) (reader_state t u)) d (subst (λ t. Peeks (stream_of w t) c (Ok at_end) (reader_state after.remaining u)) e (meant reads).0) in
    sym (normal-count (at w xs)) ∙ sym (stream_bits ys u (normal (at w xs)) c p.1)

-- ---- bytes that were fetched
-- two fetches, one after the other
pub loses_on : (j k : ℕ) (b d e : Option (List ℕ)) → Loses j b d → Loses k d e → Loses (j + k) b e
loses_on j k None d e p q = tt
loses_on j k (Some xs) None e p q = absurd p
loses_on j k (Some xs) (Some ys) None p q = absurd q
loses_on j k (Some xs) (Some ys) (Some zs) p q =
    (omega (arith, p.0, q.0, length-drop j xs, ap length p.1), q.1 ∙ ap (drop k) p.1 ∙ drop-drop k j xs)

-- bits that are lost go with the bytes that are lost
pub balance : (n k : ℕ) (xs ys : List ℕ) (v w : List Bool) → Loses k (Some xs) (Some ys) → length v + 8 * length xs ≡ n + (length w + 8 * length ys) → length v + 8 * k ≡ n + length w
balance n k xs ys v w lost bits = omega (arith, lost.0, bits, length-drop k xs, ap length lost.1)

fetched_on : (bytes : List ℕ) (k j n : ℕ) (told after : KnownSource) (s u : Standing (List Bool)) → HasFetched bytes k told.remaining s → Loses j told.remaining after.remaining
    → count_of u ≡ count_of s + n → ((xs ys : List ℕ) → told.remaining ≡ Some xs → after.remaining ≡ Some ys → length (window_of s) + 8 * length xs ≡ n + (length (window_of u) + 8 * length ys))
    → HasFetched bytes (k + j) after.remaining u
fetched_on bytes k j n told after s u has lost count bits = fetched_at told.remaining after.remaining has lost bits
  where
    fetched_at : (b d : Option (List ℕ)) → HasFetched bytes k b s → Loses j b d → ((xs ys : List ℕ) → b ≡ Some xs → d ≡ Some ys → length (window_of s) + 8 * length xs ≡ n + (length (window_of u) + 8 * length ys))
        → HasFetched bytes (k + j) d u
    fetched_at None d has lost bits = let none = has.1.0 in absurd (cc)
    fetched_at (Some xs) None has lost bits = absurd lost
    fetched_at (Some xs) (Some ys) has lost bits =
        let told = has.1.0 in
        let all = loses_on k j (Some bytes) (Some xs) (Some ys) (has.0, cc) lost in
        (all.0, (ap (λ x. Some x) all.1, omega (arith, has.1.1, count, balance n j xs ys (window_of s) (window_of u) lost (bits xs ys refl refl))))

pub fetch_law : FetchLaw
fetch_law bytes = (
  (omega arith, (refl, refl)),
  (λ o k n bits told after s u has reads fetches. fetched_on bytes k _ n told after s u has fetches (reads_counted o n bits told after s u reads) (λ xs ys e d. takes_bits o n bits told after s u xs ys e d reads)),
  (λ k at_end told after s u has reads fetches. fetched_on bytes k _ 0 told after s u has fetches (looks_counted at_end told after s u reads ∙ omega arith) (λ xs ys e d. looks_bits at_end told after s u xs ys e d reads ∙ omega arith)),
  (λ k remaining s has. (λ few. omega (arith, has.1.1), λ most. omega (arith, has.1.1))),
)
