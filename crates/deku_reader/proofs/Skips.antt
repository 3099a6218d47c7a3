-- Peeks and skips, by what a window and the bytes to come give.
use Rattle.std.proofs.Common.{◌≡◌, ◌≢◌, ◌⊎◌, ℕ, zero, suc, min, ◌+◌, ◌*◌, ◌-◌, ◌/◌, ◌%◌, ◌^◌, ◌<◌, ◌≤◌, Bool, true, false, List, [], ◌∷◌, ◌++◌, length, take, drop, Option, Some, None, Result, Ok, Err, arith, refl, sym, ap, ap₂, ◌∙◌, subst, subst₂, inl, inr, ⊎_elim, length-append, append_assoc, length-drop, eq-eqb, ne_eqb}
use Rattle.std.proofs.lemmas.Bool.{cases_lt}
use Rattle.std.proofs.lemmas.List.{length-take}
use Rattle.std.specs.Io.KnownBytes.{Consumes}
use Rattle.std.specs.declared.io.ErrorKind.{ErrorKind}
use Rattle.std.specs.declared.io.ErrorKind.TheVariants.{UnexpectedEof}
use Rattle.deku_stream.specs.declared.ctx.Order.{Order}
use Rattle.deku_stream.specs.declared.ctx.Order.TheVariants.{Msb0}
use Rattle.deku_stream.specs.declared.error.DekuError.{DekuError}
use Rattle.deku_stream.specs.declared.error.DekuError.TheVariants as error
use Rattle.deku_stream.specs.declared.error.Fault.{Fault}
use Rattle.deku_stream.specs.declared.error.NeedSize.{NeedSize}
use Rattle.deku_stream.specs.declared.error.Fault.TheVariants as fault
use Rattle.deku_stream.specs.Bits.{bin, byte_bits, facing}
use Rattle.deku_stream.specs.Streams.{Stream, bit_count, Has, Lacks, fresh, left, normal, touched, last_part, without, passed, skipped, PeekSkipLaw}
use Rattle.deku_device.specs.Devices.{Health, FewerThan, Passes, StaysEmpty, DeviceKept, DeviceFailed}
use Rattle.deku_stream.specs.Standings.{Standing, Going, Stopped, stream_of}
use Rattle.deku_stream.specs.Outcomes.{Outcome, Quiet, Broken, Unknown, UnlessStopped}
use Rattle.deku_stream.specs.Faults.{error_of}
use Rattle.deku_stream.specs.Kept.{Admits}
use Rattle.deku_stream.specs.Moving.{Moves, FewerBits}
use Rattle.deku_reader.specs.ReaderCalls.{Ending, Skips, NoneEarly, NamesRest}
use Rattle.deku_stream.proofs.Binary.{length-facing, facing-facing}
use Rattle.deku_stream.proofs.Cuts.{flow, length-flow, length-byte_bits, byte-of}
use Rattle.deku_stream.proofs.Reading.{left_none}
use Rattle.deku_stream.proofs.Taking.{left_window, peek_law}
use Rattle.deku_device.proofs.Failures.{no_fewer_same}
use Rattle.deku_reader.proofs.Moving.{at, normal-count, moved_left, moved_has}

-- ---- normal forms
normal_short : (S : Stream) → length S.window < 8 → normal S ≡ S
unfolding normal
normal_short S l = rw (ne_eqb (length S.window) 8 (λ (e : length S.window ≡ 8). omega arith)) refl

normal_eight : (S : Stream) → length S.window ≡ 8 → normal S ≡ fresh (bin S.window ∷ S.bytes)
unfolding normal
normal_eight S e = rw (eq-eqb (length S.window) 8 e) refl

-- a byte that was peeked is put back
pub normal_peeked : (b : ℕ) (bs : List ℕ) → b < 256 → normal (at (byte_bits b) bs) ≡ fresh (b ∷ bs)
normal_peeked b bs h = normal_eight (at (byte_bits b) bs) (length-byte_bits b) ∙ ap (λ x. fresh (x ∷ bs)) (byte-of Msb0 b h)

-- a window below eight stays below eight
left_short : (o : Order) (n : ℕ) (S : Stream) → length S.window < 8 → length (left o n S).window < 8
unfolding left
left_short o n S l =
    let k : ℕ = touched n S in
    let bits : List Bool = facing o S.window ++ flow o (take k S.bytes) in
    omega (
      arith,
      length-facing o (drop n bits),
      length-drop n bits,
      length-append (facing o S.window) (flow o (take k S.bytes)),
      length-facing o S.window,
      length-flow o (take k S.bytes),
      length-take k S.bytes,
    )

-- ---- skips of a peeked stream
-- what a skip leaves and finds, at a stream and at its normal form
abbrev SkipsAlike : Order → ℕ → Stream → Stream → Type 0
SkipsAlike o n S N = (normal (skipped o n S) ≡ skipped o n N)
    × (Has (last_part n S) (passed o n S) → Has (last_part n N) (passed o n N))
    × (Lacks (last_part n S) (passed o n S) → Lacks (last_part n N) (passed o n N) × (last_part n N ≡ last_part n S))

short_skipped : (o : Order) (n : ℕ) (S : Stream) → length S.window < 8 → length (skipped o n S).window < 8
unfolding skipped
short_skipped o n S l =
    let c : ℕ = min n (length S.window) in
    left_short o (last_part n S) (without ((n - c) / 8) (left o c S)) (left_short o c S l)

alike_same : (o : Order) (n : ℕ) (S : Stream) → length S.window < 8 → SkipsAlike o n S S
alike_same o n S l = (normal_short (skipped o n S) (short_skipped o n S l), λ h. h, λ h. (h, refl))

-- a window of eight, which is passed as a whole
alike_beyond : (o : Order) (n b : ℕ) (S : Stream) → length S.window ≡ 8 → 8 ≤ n → SkipsAlike o n S (fresh (b ∷ S.bytes))
unfolding skipped
alike_beyond o n b S e h =
    let N : Stream = fresh (b ∷ S.bytes) in
    let c : min n (length S.window) ≡ length S.window = omega arith in
    let z : min n 0 ≡ 0 = omega arith in
    let whole : (n - 0) / 8 ≡ suc ((n - 8) / 8) = omega arith in
    let same : (n - min n (length S.window)) / 8 ≡ (n - 8) / 8 = omega arith in
    let part : last_part n N ≡ last_part n S = omega arith in
    let here : passed o n S ≡ fresh (drop ((n - 8) / 8) S.bytes) =
    ap₂ (λ k q. without q (left o k S)) c same ∙ ap (without ((n - 8) / 8)) (left_window o S) in
    let there : passed o n N ≡ fresh (drop ((n - 8) / 8) S.bytes) =
    ap (λ k. without ((n - k) / 8) (left o k N)) z ∙ ap (without ((n - 0) / 8)) (left_none o N) ∙ ap (λ q. fresh (drop q (b ∷ S.bytes))) whole in
    let both : passed o n N ≡ passed o n S = there ∙ sym here in
    let next : skipped o n S ≡ skipped o n N = ap₂ (λ m T. left o m T) (sym part) (sym both) in
    let short : length (skipped o n N).window < 8 = short_skipped o n N (omega arith) in (
      ap normal next ∙ normal_short (skipped o n N) short,
      λ h. subst₂ (λ m T. Has m T) (sym part) (sym both) h,
      λ h. (subst₂ (λ m T. Lacks m T) (sym part) (sym both) h, part),
    )

-- a window of eight, in which the skip ends
alike_within : (o : Order) (n : ℕ) (S : Stream) → length S.window ≡ 8 → n < 8 → SkipsAlike o n S (normal S)
unfolding skipped
alike_within o n S e h =
    let N : Stream = normal S in
    let put_back : N ≡ fresh (bin S.window ∷ S.bytes) = normal_eight S e in
    let wide : length N.window ≡ 0 = ap (λ T. length T.window) put_back in
    let count : bit_count N ≡ 8 + 8 * length S.bytes = ap bit_count put_back ∙ omega arith in
    let c : min n (length S.window) ≡ n = omega arith in
    let z : min n (length N.window) ≡ 0 = omega arith in
    let none : (n - n) / 8 ≡ 0 = omega arith in
    let whole : (n - 0) / 8 ≡ 0 = omega arith in
    let nothing : last_part n S ≡ 0 = omega arith in
    let all : last_part n N ≡ n = omega arith in
    let here : passed o n S ≡ left o n S =
    ap (λ k. without ((n - k) / 8) (left o k S)) c ∙ ap (λ q. without q (left o n S)) none in
    let there : passed o n N ≡ N =
    ap (λ k. without ((n - k) / 8) (left o k N)) z ∙ ap (without ((n - 0) / 8)) (left_none o N) ∙ ap (λ q. without q N) whole in
    let first : skipped o n S ≡ left o n S = ap₂ (λ m T. left o m T) nothing here ∙ left_none o (left o n S) in
    let second : skipped o n N ≡ left o n N = ap₂ (λ m T. left o m T) all there in
    let peek = peek_law o n S (omega arith) (omega arith) in (
      ap normal first ∙ peek.1 ∙ sym second,
      λ p. subst₂ (λ m T. Has m T) (sym all) (sym there) (omega arith),
      λ p. absurd (omega (arith, p, nothing)),
    )

pub peek_skip_law : PeekSkipLaw
peek_skip_law o n S l = ⊎_elim
    (λ (k : length S.window < 8). subst (λ N. SkipsAlike o n S N) (sym (normal_short S k)) (alike_same o n S k))
    (λ (k : 8 ≤ length S.window). eight (omega arith))
    (cases_lt (length S.window) 8)
  where
    eight : length S.window ≡ 8 → SkipsAlike o n S (normal S)
    eight e = ⊎_elim
        (λ (k : n < 8). alike_within o n S e k)
        (λ (k : 8 ≤ n). subst (λ N. SkipsAlike o n S N) (sym (normal_eight S e)) (alike_beyond o n (bin S.window) S e k))
        (cases_lt n 8)

-- ---- bits of a window that are forgotten
abbrev pub Forgets : Order → List Bool → ℕ → List Bool → Type 0
Forgets o w n v = (bits : List Bool) × (length bits ≡ n) × (facing o w ≡ bits ++ facing o v)

-- how many are left
forgets_count : (o : Order) (w v : List Bool) (n : ℕ) → Forgets o w n v → length w ≡ n + length v
forgets_count o w v n h = omega (arith, ap length h.2, h.1, length-facing o w, length-facing o v, length-append h.0 (facing o v))

-- forgetting none of them leaves the window
forgets_none : (o : Order) (w v : List Bool) → Forgets o w 0 v → v ≡ w
forgets_none o w v ([], z, e) = sym (facing-facing o v) ∙ ap (facing o) (sym e) ∙ facing-facing o w
forgets_none o w v (b ∷ p, z, e) = absurd (omega arith)

-- forgetting bits of a window is taking them
forgets_left : (o : Order) (w v : List Bool) (n : ℕ) (xs : List ℕ) → length w ≤ 8 → Forgets o w n v → left o n (at w xs) ≡ at v xs
forgets_left o w v n xs l h =
    let count : length w ≡ n + length v = forgets_count o w v n h in
    let moves : Moves o w (Some xs) h.0 v (Some xs) = (ap (λ s. s ++ flow o xs) h.2 ∙ append_assoc h.0 (facing o v) (flow o xs), ([], refl)) in
    ap (λ k. left o k (at w xs)) (sym h.1)
    ∙ moved_left o w xs h.0 v xs l moves (λ p. omega (arith, h.1)) (λ z. (forgets_none o w v (h.0, z, h.2), refl))

-- ---- what a skip returns
-- what is after the window, in bits
abbrev pub behind : ℕ → List Bool → ℕ
behind n w = n - min n (length w)

passed_is : (o : Order) (w v : List Bool) (n : ℕ) (xs ys : List ℕ) → length w ≤ 8 → Forgets o w (min n (length w)) v → ys ≡ drop (behind n w / 8) xs → passed o n (at w xs) ≡ at v ys
passed_is o w v n xs ys l h e = ap (without (behind n w / 8)) (forgets_left o w v (min n (length w)) xs l h) ∙ ap (at v) (sym e)

skipped_is : (o : Order) (S T U : Stream) (n m : ℕ) → passed o n S ≡ T → last_part n S ≡ m → left o m T ≡ U → skipped o n S ≡ U
unfolding skipped
skipped_is o S T U n m p q e = ap₂ (λ k x. left o k x) q p ∙ e

-- a skip fetches no byte too early
pub skips_early : (o : Order) (w v x : List Bool) (c n : ℕ) → length w ≤ 8 → Forgets o w (min n (length w)) v
    → (0 < behind n w % 8 → length x < 8) → (behind n w % 8 ≡ 0 → x ≡ v) → NoneEarly (Going w c) (Going x (c + n))
skips_early o w v x c zero l h short none = inr (ap₂ Going (none (omega arith) ∙ forgets_none o w v (h.0, omega (arith, h.1), h.2)) (omega arith))
skips_early o w v x c (suc n) l h short none = inl (by_rest (cases_lt 0 (behind (suc n) w % 8)))
  where
    by_rest : (0 < behind (suc n) w % 8) ⊎ (behind (suc n) w % 8 ≤ 0) → length x < 8
    by_rest (inl p) = short p
    by_rest (inr p) = omega (arith, l, forgets_count o w v (min (suc n) (length w)) h, ap length (none (omega arith)))

-- the bits were left out
pub skips_ok : (o : Order) (w : List Bool) (t : Option (List ℕ)) (c n : ℕ) (v : List Bool) (t1 : Option (List ℕ)) (x : List Bool) (t2 : Option (List ℕ))
    → length w ≤ 8 → c + n < 2 ^ 64 → Forgets o w (min n (length w)) v → Passes (behind n w / 8) t t1
    → ((bits : List Bool) × (length bits ≡ behind n w % 8) × Moves o v t1 bits x t2)
    → (0 < behind n w % 8 → length x < 8) → (behind n w % 8 ≡ 0 → (x ≡ v) × (t2 ≡ t1))
    → Skips o n false (Going (stream_of w t) c) (Ok tt) (Going (stream_of x t2) (c + n))
skips_ok o w None c n v t1 x t2 l room h passes moved short none = inr (room, inl (stream_of x t2, refl, refl))
skips_ok o w (Some xs) c n v None x t2 l room h passes moved short none = absurd passes
skips_ok o w (Some xs) c n v (Some ys) x None l room h passes moved short none = absurd moved.2
skips_ok o w (Some xs) c n v (Some ys) x (Some zs) l room h passes moved short none =
    let S : Stream = at w xs in
    let bits : List Bool = moved.0 in
    let count : length w ≡ min n (length w) + length v = forgets_count o w v (min n (length w)) h in
    let first : passed o n S ≡ at v ys = passed_is o w v n xs ys l h passes in
    let part : last_part n S ≡ length bits = sym moved.1 in
    let rest : left o (length bits) (at v ys) ≡ at x zs =
    moved_left o v ys bits x zs (omega arith) moved.2 (λ p. short (rw (← moved.1) p)) (λ z. none (sym moved.1 ∙ z)) in
    let has : Has (last_part n S) (passed o n S) = subst₂ (λ m T. Has m T) (sym part) (sym first) (moved_has o v ys bits x zs moved.2) in
    let law = peek_skip_law o n S l in
    inr (room, inl (law.1 has, refl, ap (λ T. Going (Some T) (c + n)) (ap normal (sym (skipped_is o S (at v ys) (at x zs) n (length bits) first part rest)) ∙ law.0)))

-- a fault of the device, which is returned and kept
pub breaks : {A V : Type 0} {after : A} (moves : A → ℕ → Result V DekuError → Standing A → Type 0) (a : A) (c : ℕ) (f g : Health) (kind : ErrorKind)
    → DeviceFailed f g → Outcome (UnlessStopped Unknown moves) (Going a c) f (Err (error.Io kind)) (Stopped after (error.Io kind) c) g
breaks {after = after} moves a c f g kind more = Broken (record { kind = kind; count = c; left = after; answered = refl; kept = refl }) (kind, refl, after, tt, refl) more

-- the last part failed
pub skips_err : {after : Option Stream} (o : Order) (w : List Bool) (t : Option (List ℕ)) (c n : ℕ) (v : List Bool) (t1 : Option (List ℕ)) (f g : Health) (kind : ErrorKind) (stop : Fault)
    → length w ≤ 8 → c + n < 2 ^ 64 → Forgets o w (min n (length w)) v → Passes (behind n w / 8) t t1 → 0 < behind n w % 8
    → ((kind ≡ UnexpectedEof) × (stop ≡ fault.Incomplete (record { bits = behind n w % 8 }))) ⊎ ((kind ≢ UnexpectedEof) × (stop ≡ fault.Io kind))
    → (kind ≡ UnexpectedEof → FewerBits (behind n w % 8) v t1) → (kind ≢ UnexpectedEof → DeviceFailed f g) → DeviceKept f g
    → Outcome (Skips o n) (Going (stream_of w t) c) f (Err (error_of stop)) (Stopped after (error_of stop) c) g
skips_err o w t c n v t1 f g kind stop l room h passes some (inr p) ended failed kept =
    rw p.1 (breaks _ (stream_of w t) c f g kind (failed p.0))
skips_err {after} o w None c n v t1 f g kind stop l room h passes some (inl p) ended failed kept =
    rw p.1 (Quiet (inr (room, inr (behind n w % 8, some, omega arith, omega arith, (refl, after, refl)))) kept)
skips_err o w (Some xs) c n v None f g kind stop l room h passes some (inl p) ended failed kept = absurd passes
skips_err {after} o w (Some xs) c n v (Some ys) f g kind stop l room h passes some (inl p) ended failed kept =
    let S : Stream = at w xs in
    let first : passed o n S ≡ at v ys = passed_is o w v n xs ys l h passes in
    let lacks : Lacks (last_part n S) (passed o n S) = subst (λ T. Lacks (last_part n S) T) (sym first) (ended p.0) in
    let law = (peek_skip_law o n S l).2 lacks in
    rw (p.1, ← law.1) (Quiet (inr (room, inr (law.0, (refl, after, refl)))) kept)

-- ---- which bits a skip names
same_need : (x y : NeedSize) → ◌≡◌ {A = Result (Unit {0}) DekuError} (Err (error.Incomplete x)) (Err (error.Incomplete y)) → x ≡ y
same_need x y e = cc

pub names_rest : (n c : ℕ) (w : List Bool) (kind : ErrorKind) (stop : Fault)
    → ((kind ≡ UnexpectedEof) × (stop ≡ fault.Incomplete (record { bits = behind n w % 8 }))) ⊎ ((kind ≢ UnexpectedEof) × (stop ≡ fault.Io kind))
    → NamesRest n (Going w c) (Err (error_of stop))
names_rest n c w kind stop (inl p) = rw p.1 (λ m e. let k : behind n w % 8 ≡ m = ap (λ d. d.bits) (same_need _ _ e) in omega (arith, k))
names_rest n c w kind stop (inr p) = rw p.1 (λ m e. absurd (cc))

-- a fault of the device names none
pub names_none : (n c : ℕ) (w : List Bool) (kind : ErrorKind) → NamesRest n (Going w c) (Err (error.Io kind))
names_none n c w kind = λ m e. absurd (cc)

-- neither does what is refused before
pub names_away : (n : ℕ) (s : Standing (List Bool)) (e : DekuError) → Admits n s (Err e) → NamesRest n s (Err e)
names_away n (Going w c) e (inl p) = let k = p.1.2 in λ m q. absurd (cc)
names_away n (Going w c) e (inr p) = let k = p.1 in absurd (cc)
names_away n (Stopped w d c) e p = tt

-- ---- what a look at the end returns
-- bits are unread
pub peeks_some : (w : List Bool) (t : Option (List ℕ)) (c : ℕ) (f : Health) → 0 < length w → Outcome Ending (Going (stream_of w t) c) f (Ok false) (Going (stream_of w t) c) f
peeks_some w None c f h = Quiet (false, None, refl, refl) (no_fewer_same f)
peeks_some w (Some xs) c f h = Quiet (inr (omega (arith, normal-count (at w xs)), refl), refl) (no_fewer_same f)

-- the next byte is unread
pub peeks_byte : (w : List Bool) (t : Option (List ℕ)) (c b : ℕ) (u : Option (List ℕ)) (f g : Health) → w ≡ [] → b < 256 → Consumes t u (b ∷ []) → DeviceKept f g
    → Outcome Ending (Going (stream_of w t) c) f (Ok false) (Going (stream_of (byte_bits b) u) c) g
peeks_byte w None c b u f g e h took kept = Quiet (false, stream_of (byte_bits b) u, refl, refl) kept
peeks_byte w (Some xs) c b None f g e h took kept = absurd took
peeks_byte w (Some xs) c b (Some ys) f g e h took kept =
    let start : normal (at w xs) ≡ fresh (b ∷ ys) = ap (λ s. normal (at s xs)) e ∙ normal_short (fresh xs) (omega arith) ∙ ap fresh took in
    let same : normal (at (byte_bits b) ys) ≡ normal (at w xs) = normal_peeked b ys h ∙ sym start in
    let count : bit_count (normal (at w xs)) ≡ bit_count (fresh (b ∷ ys)) = ap bit_count start in
    Quiet (inr (omega arith, refl), ap (λ T. Going (Some T) c) same) kept

-- no byte is to come
pub peeks_end : (w : List Bool) (t : Option (List ℕ)) (c : ℕ) (u : Option (List ℕ)) (f g : Health) → w ≡ [] → FewerThan 1 t → StaysEmpty t u → DeviceKept f g
    → Outcome Ending (Going (stream_of w t) c) f (Ok true) (Going (stream_of w u) c) g
peeks_end w None c u f g e few stays kept = Quiet (true, stream_of w u, refl, refl) kept
peeks_end w (Some xs) c u f g e few stays kept =
    let none : length w ≡ 0 = ap length e in
    let same : u ≡ Some xs = stays (omega arith) in
    Quiet (inl (omega (arith, normal-count (at w xs)), refl), ap (λ k. Going (stream_of w k) c) same) kept

-- ---- a skip of no more bits than there are
-- what is left of a stream has the bits that were not taken
pub left_count : (o : Order) (n : ℕ) (S : Stream) → Has n S → n + bit_count (left o n S) ≡ bit_count S
unfolding left
left_count o n S h =
    let k : ℕ = touched n S in
    let bits : List Bool = facing o S.window ++ flow o (take k S.bytes) in
    omega (
      arith,
      h,
      length-facing o (drop n bits),
      length-drop n bits,
      length-append (facing o S.window) (flow o (take k S.bytes)),
      length-facing o S.window,
      length-flow o (take k S.bytes),
      length-take k S.bytes,
      length-drop k S.bytes,
    )

pub skip_finds : (o : Order) (n : ℕ) (S : Stream) → length S.window ≤ 8 → Has n S → Has (last_part n S) (passed o n S)
skip_finds o n S l h =
    let c : ℕ = min n (length S.window) in
    let q : ℕ = (n - c) / 8 in
    omega (arith, left_count o c S (omega arith), length-drop q (left o c S).bytes)
