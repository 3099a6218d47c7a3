-- No byte is fetched too early, from one call to the next.
use Rattle.std.proofs.Common.{◌≡◌, ℕ, ◌+◌, ◌*◌, ◌-◌, ◌<◌, Bool, false, List, length, drop, Option, Some, None, Result, Ok, Err, ℤ, refl, ap, sym, ◌∙◌, subst, inl, inr, arith, min, ◌/◌, [], ne_eqb}
use Rattle.std.specs.Prelude.{OnOk}
use Rattle.std.specs.Global.{Vec}
use Rattle.std.proofs.lemmas.List.{drop-drop, length-drop}
use Rattle.deku_bits.specs.declared.ctx.Order.{Order}
use Rattle.deku_bits.specs.declared.error.DekuError.{DekuError}
use Rattle.deku_bits.specs.Bits.{groups}
use Rattle.deku_bits.specs.Streams.{Stream, Has, normal, left, touched, last_part, passed, skipped}
use Rattle.deku_bits.specs.Devices.{KnownSource, Loses}
use Rattle.deku_bits.specs.Standings.{Standing, Going, Stopped, count_of, reader_state, stream_of}
use Rattle.deku_bits.specs.Outcomes.{Quiet, Value, Refusal, Unknown, UnlessStopped, CountsBits, Reserving}
use Rattle.deku_bits.specs.ReaderCalls.{ReadsAt, Transfers, TakesBits, ReadsByteVec, FetchesFor, NoneEarly, IsBehind, items_of, window_of, Skipping, Skips}
use Rattle.deku_bits.proofs.Handing.{meant}
use Rattle.deku_bits.proofs.Fetched.{takes_bits, takes_counted, balance}
use Rattle.deku_num.specs.declared.kind.NumberType.{NumberType}
use Rattle.deku_num.specs.declared.ctx.Layout.{Layout}
use Rattle.deku_num.specs.Numbers.{width}
use Rattle.deku_num.specs.NumberCalls.{ReadsNumber, Refused, Passed}
use Rattle.deku_bits.proofs.Moving.{at}
use Rattle.deku_bits.proofs.Skips.{left_count}
use Rattle.deku_reading.specs.Early.{PromptlyAt}

-- ---- calls one after the other
-- no byte is fetched too early in two calls
pub early_on : {s t u : Standing (List Bool)} → NoneEarly s t → NoneEarly t u → NoneEarly s u
early_on p (inl q) = inl q
early_on {s} p (inr e) = subst (NoneEarly s) (sym e) p

-- nothing is done
pub promptly_none : {told : KnownSource} {s : Standing (List Bool)} → PromptlyAt told s told s
promptly_none = record { few = inr refl; step = λ bytes k is. (k, is) }

-- one call, and then another
pub promptly_on : {told mid after : KnownSource} {s t u : Standing (List Bool)} → PromptlyAt told s mid t → PromptlyAt mid t after u → PromptlyAt told s after u
promptly_on p q = record { few = early_on p.few q.few; step = λ bytes k is. let m = p.step bytes k is in q.step bytes m.0 m.1 }

-- what holds whatever was returned holds of a value
pub at_ok : {V E P : Type 0} (r : Result V E) → P → OnOk r P
at_ok (Ok v) p = p
at_ok (Err e) p = tt

-- what follows where a value was returned
pub then_ok : {V E P Q : Type 0} (r : Result V E) → (P → Q) → OnOk r P → OnOk r Q
then_ok (Ok v) h p = h p
then_ok (Err e) h p = tt

-- ---- bits that are taken
same_count : (now : Option (List ℕ)) (s : Standing (List Bool)) → count_of (reader_state now s) ≡ count_of s
same_count now (Going w c) = refl
same_count now (Stopped w f c) = refl

took_step : (o : Order) (n : ℕ) (bits : List Bool) (told after : KnownSource) (s u : Standing (List Bool)) → ReadsAt (TakesBits o n) told s (Ok bits) after u → FetchesFor n s told after
    → (bytes : List ℕ) (k : ℕ) → IsBehind bytes k told.remaining s → (j : ℕ) × IsBehind bytes j after.remaining u
took_step o n bits told after s u reads fetches bytes k is =
    let count : count_of u ≡ count_of s + n =
    sym (same_count after.remaining u) ∙ takes_counted o n bits (reader_state told.remaining s) (reader_state after.remaining u) (meant reads).0 ∙ ap (λ c. c + n) (same_count told.remaining s) in
    lost (groups (n - length (window_of s))) after.remaining refl (subst (λ x. Loses (groups (n - length (window_of s))) x after.remaining) is.0 fetches) count
  where
    lost : (j : ℕ) (now : Option (List ℕ)) → now ≡ after.remaining → Loses j (Some (drop k bytes)) now → count_of u ≡ count_of s + n → (i : ℕ) × IsBehind bytes i after.remaining u
    lost j None e l count = absurd l
    lost j (Some ys) e l count =
        let even : length (window_of s) + 8 * j ≡ n + length (window_of u) =
        balance n j (drop k bytes) ys (window_of s) (window_of u) l (takes_bits o n bits told after s u (drop k bytes) ys is.0 (sym e) reads) in
        (k + j, (sym e ∙ ap (λ x. Some x) (l.1 ∙ drop-drop j k bytes), omega (arith, is.1, count, even)))

pub took_promptly : (o : Order) (n : ℕ) (bits : List Bool) (told after : KnownSource) (s u : Standing (List Bool)) → ReadsAt (TakesBits o n) told s (Ok bits) after u → FetchesFor n s told after → NoneEarly s u
    → PromptlyAt told s after u
took_promptly o n bits told after s u reads fetches early = record { few = early; step = took_step o n bits told after s u reads fetches }

-- ---- numbers
-- the bits that a number took
number_took : (t : NumberType) (l : Layout) (v : ℤ) (s u : Standing (Option Stream)) → ReadsNumber t l false s (Ok v) u → (bits : List Bool) × TakesBits l.order (width t l) false s (Ok bits) u
number_took t l v s u (Refused b p) = let e = p.2 in absurd (cc)
number_took t l v s u (Passed p) = elim p.1 [
  | Value bits took e ↦ (bits, took)
  | Refusal x refused e ↦ absurd (cc)
]

pub number_promptly : {t : NumberType} {l : Layout} {v : ℤ} {told after : KnownSource} {s u : Standing (List Bool)} → ReadsAt (ReadsNumber t l) told s (Ok v) after u → FetchesFor (width t l) s told after → NoneEarly s u
    → PromptlyAt told s after u
number_promptly {t} {l} {v} {told} {after} {s} {u} read fetches early =
    let m = meant read in
    let took = number_took t l v (reader_state told.remaining s) (reader_state after.remaining u) m.0 in
    took_promptly l.order (width t l) took.0 told after s u (Quiet took.1 m.1) fetches early

-- ---- bytes
-- what was returned after memory that was found
unreserved : {A V : Type 0} (moves : A → ℕ → Result V DekuError → Standing A → Type 0) (n : ℕ) (s : Standing A) (v : V) (u : Standing A)
    → UnlessStopped Unknown (CountsBits n (Reserving moves)) false s (Ok v) u → UnlessStopped Unknown (CountsBits n moves) false s (Ok v) u
unreserved moves n (Going a c) v u (inl p) = inl p
unreserved moves n (Going a c) v u (inr (room, inl p)) = let e = p.0 in absurd (cc)
unreserved moves n (Going a c) v u (inr (room, inr p)) = inr (room, p)
unreserved moves n (Stopped a e c) v u p = p

-- the bits that the bytes of a vector took
vec_took : (o : Order) (n : ℕ) (bytes : List ℕ) (s u : Standing (Option Stream)) → ReadsByteVec o n false s (Ok bytes) u → (bits : List Bool) × TakesBits o (8 * n) false s (Ok bits) u
vec_took o n bytes s u (Value v p e) = elim p [
  | Value bits took d ↦ (bits, unreserved (Transfers o (8 * n)) (8 * n) s bits u took)
  | Refusal x refused d ↦ absurd (cc)
]
vec_took o n bytes s u (Refusal x p e) = absurd (cc)

pub vec_promptly : (o : Order) (n : ℕ) (r : Result (Vec ℕ) DekuError) (told after : KnownSource) {s u : Standing (List Bool)} → ReadsAt (ReadsByteVec o n) told s (items_of r) after u
    → OnOk r (FetchesFor (8 * n) s told after) → NoneEarly s u → OnOk r (PromptlyAt told s after u)
vec_promptly o n (Ok v) told after {s} {u} read fetches early =
    let m = meant read in
    let took = vec_took o n v.items (reader_state told.remaining s) (reader_state after.remaining u) m.0 in
    took_promptly o (8 * n) took.0 told after s u (Quiet took.1 m.1) fetches early
vec_promptly o n (Err e) told after read fetches early = tt

-- ---- skips
normal_short : (w : List Bool) (xs : List ℕ) → length w < 8 → normal (at w xs) ≡ at w xs
unfolding normal
normal_short w xs l = rw (ne_eqb (length w) 8 (λ (e : length w ≡ 8). omega arith)) refl

-- what a skip leaves: the bytes after so many, and the bits of these that were not left out
skip_leaves : (o : Order) (n : ℕ) (w : List Bool) (xs : List ℕ) → Has (last_part n (at w xs)) (passed o n (at w xs))
    → (q : ℕ) × ((skipped o n (at w xs)).bytes ≡ drop q xs) × (length w + 8 * q ≡ n + length (skipped o n (at w xs)).window)
unfolding left skipped
skip_leaves o n w xs has =
    let S : Stream = at w xs in
    let c : ℕ = min n (length w) in
    let P : Stream = passed o n S in
    let q : ℕ = (n - c) / 8 in
    let m : ℕ = last_part n S in
    let z : ℕ = touched c S in
    let t : ℕ = touched m P in
    let first = left_count o c S (omega arith) in
    let last = left_count o m P has in (
      z + q + t,
      ap (drop t) (drop-drop q z xs) ∙ drop-drop t (z + q) xs,
      omega (arith, has, first, last, length-drop z xs, length-drop q (drop z xs), length-drop t (drop q (drop z xs))),
    )

-- what is known of a reader whose stream is this
stands_at : (T : Stream) (c : ℕ) (now : Option (List ℕ)) (u : Standing (List Bool)) → reader_state now u ≡ Going (Some T) c → length (window_of u) < 8
    → (now ≡ Some T.bytes) × (length (window_of u) ≡ length T.window) × (count_of u ≡ c)
stands_at T c now (Stopped w f d) e l = absurd (cc)
stands_at T c None (Going v d) e l = absurd (cc)
stands_at T c (Some ys) (Going v d) e l =
    let same : normal (at v ys) ≡ T = cc in
    let is : at v ys ≡ T = sym (normal_short v ys l) ∙ same in
    (ap (λ S. Some S.bytes) is, ap (λ S. length S.window) is, cc)

still_short : (s u : Standing (List Bool)) → NoneEarly s u → length (window_of s) < 8 → length (window_of u) < 8
still_short s u (inl l) k = l
still_short s u (inr e) k = subst (λ x. length (window_of x) < 8) (sym e) k

-- a skip, where no whole byte was looked at
pub skip_promptly : (o : Order) (n : ℕ) (told after : KnownSource) (s u : Standing (List Bool)) → ReadsAt (Skips o n) told s (Ok tt) after u → NoneEarly s u → length (window_of s) < 8
    → PromptlyAt told s after u
skip_promptly o n told after (Stopped w f c) u reads early short = let e = (meant reads).0.0 in absurd (cc)
skip_promptly o n told after (Going w c) u reads early short = record { few = early; step = step }
  where
    left_out : (bytes : List ℕ) (k : ℕ) → 8 * k ≡ c + length w → Skipping o n (Some (normal (at w (drop k bytes)))) c (Ok tt) (reader_state after.remaining u) → (j : ℕ) × IsBehind bytes j after.remaining u
    left_out bytes k even (inr lacks) = let e = lacks.1.0 in absurd (cc)
    left_out bytes k even (inl took) =
        let xs : List ℕ = drop k bytes in
        let whole = subst (λ S. Has (last_part n S) (passed o n S) × (reader_state after.remaining u ≡ Going (Some (skipped o n S)) (c + n))) (normal_short w xs short) (took.0, took.2) in
        let left = skip_leaves o n w xs whole.0 in
        let at_end = stands_at (skipped o n (at w xs)) (c + n) after.remaining u whole.1 (still_short (Going w c) u early short) in
        (k + left.0, (at_end.0 ∙ ap (λ x. Some x) (left.1 ∙ drop-drop left.0 k bytes), omega (arith, even, left.2, at_end.1, at_end.2)))

    skips : (bytes : List ℕ) (k : ℕ) → 8 * k ≡ c + length w → CountsBits n (Skipping o n) (Some (normal (at w (drop k bytes)))) c (Ok tt) (reader_state after.remaining u) → (j : ℕ) × IsBehind bytes j after.remaining u
    skips bytes k even (inl refused) = let e = refused.1.2 in absurd (cc)
    skips bytes k even (inr may) = left_out bytes k even may.1

    step : (bytes : List ℕ) (k : ℕ) → IsBehind bytes k told.remaining (Going w c) → (j : ℕ) × IsBehind bytes j after.remaining u
    step bytes k is = skips bytes k is.1 (subst (λ x. CountsBits n (Skipping o n) (stream_of w x) c (Ok tt) (reader_state after.remaining u)) is.0 (meant reads).0)

-- a skip, and then another call
pub skip_on : (o : Order) (n : ℕ) (told mid after : KnownSource) (s t u : Standing (List Bool)) → ReadsAt (Skips o n) told s (Ok tt) mid t → NoneEarly s t → length (window_of s) < 8 → PromptlyAt mid t after u
    → PromptlyAt told s after u
skip_on o n told mid after s t u skips early short p = promptly_on (skip_promptly o n told mid s t skips early short) p

-- ---- a reader that was made for one call
-- its source reports the bytes after those that the counted bits fill
pub whole_behind : (told after : KnownSource) (u : Standing (List Bool)) → PromptlyAt told (Going [] 0) after u → (bytes : List ℕ) → told.remaining ≡ Some bytes → after.remaining ≡ Some (drop (groups (count_of u)) bytes)
whole_behind told after u p bytes e =
    let far = p.step bytes 0 (e, omega arith) in
    let short = still_short (Going [] 0) u p.few (omega arith) in
    let k : far.0 ≡ groups (count_of u) = omega (arith, far.1.1, short) in
    far.1.0 ∙ ap (λ x. Some (drop x bytes)) k
