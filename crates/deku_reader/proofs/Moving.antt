-- Bits that go from a window and the bytes to come, against what is taken from a stream and left.
use Rattle.std.proofs.Common.{◌≡◌, ◌≢◌, ◌⊎◌, ℕ, ◌+◌, ◌*◌, ◌-◌, ◌^◌, ◌<◌, ◌≤◌, Bool, false, List, [], ◌++◌, length, take, drop, Option, Some, None, Result, Ok, Err, arith, refl, sym, ap, ap₂, ◌∙◌, inl, inr, ⊎_elim, length-append, append_assoc, eq-eqb, ne_eqb}
use Rattle.std.proofs.lemmas.Bool.{cases_eq, cases_lt}
use Rattle.std.proofs.lemmas.List.{take_at, drop_at}
use Rattle.std.specs.Io.KnownBytes.{Consumes}
use Rattle.std.specs.declared.io.ErrorKind.{ErrorKind}
use Rattle.std.specs.declared.io.ErrorKind.TheVariants.{UnexpectedEof}
use Rattle.deku_stream.specs.declared.ctx.Order.{Order}
use Rattle.deku_stream.specs.declared.error.DekuError.{DekuError}
use Rattle.deku_stream.specs.declared.error.DekuError.TheVariants as error
use Rattle.deku_stream.specs.declared.error.Fault.{Fault}
use Rattle.deku_stream.specs.declared.error.Fault.TheVariants as fault
use Rattle.deku_stream.specs.Bits.{facing, groups}
use Rattle.deku_stream.specs.Streams.{Stream, Has, seen, taken, left, normal, touched}
use Rattle.deku_device.specs.Devices.{Health, FewerThan, Loses, DeviceKept, DeviceFailed}
use Rattle.deku_stream.specs.Standings.{Standing, Going, Stopped, stream_of, reader_state}
use Rattle.deku_stream.specs.Outcomes.{Outcome, Quiet, Broken}
use Rattle.deku_stream.specs.Faults.{error_of}
use Rattle.deku_stream.specs.Kept.{Admits, standing_of}
use Rattle.deku_stream.specs.Moving.{Moves, FewerBits}
use Rattle.deku_reader.specs.ReaderCalls.{TakesBits, NeedsNone}
use Rattle.deku_stream.proofs.Binary.{length-facing, facing-facing}
use Rattle.deku_stream.proofs.Cuts.{flow, length-flow, flow-append}
use Rattle.deku_stream.proofs.Reading.{facing_nil, left_none}
use Rattle.deku_stream.proofs.Taking.{peek_law}

abbrev pub at : List Bool → List ℕ → Stream
at window bytes = record { window = window; bytes = bytes }

-- how many bits are seen
pub length-seen : (o : Order) (w : List Bool) (bs : List ℕ) → length (seen o (at w bs)) ≡ length w + 8 * length bs
length-seen o w bs = omega (arith, length-append (facing o w) (flow o bs), length-facing o w, length-flow o bs)

-- ---- moves, one after the other
-- more bits
pub moves_more : (o : Order) (w : List Bool) (t : Option (List ℕ)) (bs : List Bool) (v : List Bool) (u : Option (List ℕ)) (cs : List Bool) (x : List Bool) (k : Option (List ℕ))
    → Moves o w t bs v u → Moves o v u cs x k → Moves o w t (bs ++ cs) x k
moves_more o w None bs v u cs x k p q = tt
moves_more o w (Some xs) bs v None cs x k p q = absurd p
moves_more o w (Some xs) bs v (Some ys) cs x None p q = absurd q
moves_more o w (Some xs) bs v (Some ys) cs x (Some zs) p q = (
  p.0 ∙ ap (λ s. bs ++ s) q.0 ∙ sym (append_assoc bs cs (seen o (at x zs))),
  (p.1.0 ++ q.1.0, p.1.1 ∙ ap (λ s. p.1.0 ++ s) q.1.1 ∙ sym (append_assoc p.1.0 q.1.0 zs)),
)

-- fewer than k bits are left after those that were given
pub fewer_behind : (o : Order) (w : List Bool) (t : Option (List ℕ)) (bs : List Bool) (v : List Bool) (u : Option (List ℕ)) (k n : ℕ)
    → Moves o w t bs v u → FewerBits k v u → length bs + k ≤ n → FewerBits n w t
fewer_behind o w None bs v u k n p f h = tt
fewer_behind o w (Some xs) bs v None k n p f h = absurd p
fewer_behind o w (Some xs) bs v (Some ys) k n p f h =
    let all : length (seen o (at w xs)) ≡ length (bs ++ seen o (at v ys)) = ap length p.0 in
    omega (arith, f, length-seen o w xs, length-seen o v ys, length-append bs (seen o (at v ys)))

-- fewer than n bits were given, and none is left
pub too_few : (o : Order) (w : List Bool) (t : Option (List ℕ)) (bs : List Bool) (v : List Bool) (u : Option (List ℕ)) (n : ℕ)
    → Moves o w t bs v u → v ≡ [] → FewerThan 1 u → length bs < n → FewerBits n w t
too_few o w t bs v u n p e f h = fewer_behind o w t bs v u 1 n p (none v u e f) (omega arith)
  where
    none : (v : List Bool) (u : Option (List ℕ)) → v ≡ [] → FewerThan 1 u → FewerBits 1 v u
    none v None e f = tt
    none v (Some ys) e f = let z : length v ≡ 0 = ap length e in omega (arith, f, z)

-- ---- bytes that are fetched at once
-- bytes after a window
pub fetched : (o : Order) (w : List Bool) (t : Option (List ℕ)) (bs : List ℕ) (u : Option (List ℕ)) → Consumes t u bs → Moves o w t (facing o w ++ flow o bs) [] u
fetched o w None bs u p = tt
fetched o w (Some xs) bs None p = absurd p
fetched o w (Some xs) bs (Some ys) p = (
  ap (λ s. facing o w ++ s) (ap (flow o) p ∙ flow-append o bs ys)
      ∙ sym (append_assoc (facing o w) (flow o bs) (flow o ys))
      ∙ ap (λ s. (facing o w ++ flow o bs) ++ s) (sym (ap (λ s. s ++ flow o ys) (facing_nil o))),
  (bs, p),
)

-- of the bits that are given, the last stay in a window
pub moves_keep : (o : Order) (w : List Bool) (t : Option (List ℕ)) (all bs v : List Bool) (u : Option (List ℕ)) → Moves o w t all [] u → all ≡ bs ++ facing o v → Moves o w t bs v u
moves_keep o w None all bs v u p e = tt
moves_keep o w (Some xs) all bs v None p e = absurd p
moves_keep o w (Some xs) all bs v (Some ys) p e = (
  p.0 ∙ ap₂ (λ a f. a ++ (f ++ flow o ys)) e (facing_nil o) ∙ append_assoc bs (facing o v) (flow o ys),
  p.1,
)

-- bits that a window gives
pub moves_inside : (o : Order) (w : List Bool) (t : Option (List ℕ)) (bs v : List Bool) → facing o w ≡ bs ++ facing o v → Moves o w t bs v t
moves_inside o w None bs v e = tt
moves_inside o w (Some xs) bs v e = (ap (λ s. s ++ flow o xs) e ∙ append_assoc bs (facing o v) (flow o xs), ([], refl))

-- bits of a window, and then bits of bytes after it
pub handed : (o : Order) (w v x : List Bool) (t u : Option (List ℕ)) (bytes : List ℕ) (first second : List Bool) → Consumes t u bytes
    → facing o w ≡ first ++ facing o v → facing o v ++ flow o bytes ≡ second ++ facing o x → Moves o w t (first ++ second) x u
handed o w v x t u bytes first second p e f =
    let all : facing o w ++ flow o bytes ≡ (first ++ second) ++ facing o x =
    ap (λ s. s ++ flow o bytes) e ∙ append_assoc first (facing o v) (flow o bytes) ∙ ap (λ s. first ++ s) f ∙ sym (append_assoc first second (facing o x)) in
    moves_keep o w t (facing o w ++ flow o bytes) (first ++ second) x u (fetched o w t bytes u p) all

-- ---- what is taken and left
-- bits that were given, and a window below eight: the stream that is left
left_is : (o : Order) (w : List Bool) (xs : List ℕ) (bs v : List Bool) (ys run : List ℕ) → length w ≤ 8 → length v < 8
    → seen o (at w xs) ≡ bs ++ seen o (at v ys) → xs ≡ run ++ ys → left o (length bs) (at w xs) ≡ at v ys
unfolding left
left_is o w xs bs v ys run lw lv e s =
    let n : ℕ = length bs in
    let all : length (seen o (at w xs)) ≡ length (bs ++ seen o (at v ys)) = ap length e in
    let parts : length xs ≡ length run + length ys = ap length s ∙ length-append run ys in
    let count : length w + 8 * length run ≡ n + length v = omega (arith, length-seen o w xs, length-seen o v ys, length-append bs (seen o (at v ys))) in
    let touch : touched n (at w xs) ≡ length run = omega arith in
    let front : take (touched n (at w xs)) xs ≡ run = ap₂ (λ k l. take k l) touch s ∙ take_at run ys (length run) refl in
    let behind : drop (touched n (at w xs)) xs ≡ ys = ap₂ (λ k l. drop k l) touch s ∙ drop_at run ys (length run) refl in
    let k : ℕ = n + length v in
    let here : length (facing o w ++ flow o run) ≡ k = omega (arith, length-append (facing o w) (flow o run), length-facing o w, length-flow o run) in
    let there : length (bs ++ facing o v) ≡ k = omega (arith, length-append bs (facing o v), length-facing o v) in
    let same : (facing o w ++ flow o run) ++ flow o ys ≡ (bs ++ facing o v) ++ flow o ys =
    append_assoc (facing o w) (flow o run) (flow o ys) ∙ ap (λ l. facing o w ++ l) (sym (flow-append o run ys) ∙ ap (flow o) (sym s)) ∙ e ∙ sym (append_assoc bs (facing o v) (flow o ys)) in
    let cut : facing o w ++ flow o run ≡ bs ++ facing o v =
    sym (take_at (facing o w ++ flow o run) (flow o ys) k here) ∙ ap (take k) same ∙ take_at (bs ++ facing o v) (flow o ys) k there in
    ap₂ (λ l r. at (facing o (drop n (facing o w ++ flow o l))) r) front behind
    ∙ ap (λ l. at (facing o (drop n l)) ys) cut
    ∙ ap (λ l. at (facing o l) ys) (drop_at bs (facing o v) n refl)
    ∙ ap (λ l. at l ys) (facing-facing o v)

some_same : (a b : List ℕ) → Some a ≡ Some b → a ≡ b
some_same a b e = cc

-- bits that were given: the stream that is left
pub moved_left : (o : Order) (w : List Bool) (xs : List ℕ) (bs v : List Bool) (ys : List ℕ) → length w ≤ 8
    → Moves o w (Some xs) bs v (Some ys) → (0 < length bs → length v < 8) → (length bs ≡ 0 → (v ≡ w) × (Some ys ≡ Some xs)) → left o (length bs) (at w xs) ≡ at v ys
moved_left o w xs bs v ys l moved short none = ⊎_elim
    (λ (p : length bs < 1).
    let z : length bs ≡ 0 = omega arith in
    let e = none z in
    ap (λ k. left o k (at w xs)) z ∙ left_none o (at w xs) ∙ ap₂ at (sym e.0) (sym (some_same ys xs e.1)))
    (λ (p : 1 ≤ length bs). left_is o w xs bs v ys moved.1.0 l (short p) moved.0 moved.1.1)
    (cases_lt (length bs) 1)

-- as many bytes were fetched as the bits after the window need
pub moved_loses : (o : Order) (w : List Bool) (t : Option (List ℕ)) (n : ℕ) (bs v : List Bool) (u : Option (List ℕ)) → length bs ≡ n → length w ≤ 8
    → Moves o w t bs v u → (0 < length bs → length v < 8) → (length bs ≡ 0 → (v ≡ w) × (u ≡ t)) → Loses (groups (n - length w)) t u
moved_loses o w None n bs v u e l moved short none = tt
moved_loses o w (Some xs) n bs v None e l moved short none = absurd moved
moved_loses o w (Some xs) n bs v (Some ys) e l moved short none = ⊎_elim
    (λ (p : length bs < 1).
    let same : ys ≡ xs = some_same ys xs (none (omega arith)).1 in
    let k : groups (n - length w) ≡ 0 = omega arith in
    rw k (omega arith, same))
    (λ (p : 1 ≤ length bs).
    let run : List ℕ = moved.1.0 in
    let small : length v < 8 = short p in
    let parts : length xs ≡ length run + length ys = ap length moved.1.1 ∙ length-append run ys in
    let count : length w + 8 * length run ≡ n + length v =
    omega (arith, ap length moved.0, length-seen o w xs, length-seen o v ys, length-append bs (seen o (at v ys))) in
    let k : groups (n - length w) ≡ length run = omega arith in
    rw k (omega arith, sym (ap (drop (length run)) moved.1.1 ∙ drop_at run ys (length run) refl)))
    (cases_lt (length bs) 1)

-- as many bits as were given were there
pub moved_has : (o : Order) (w : List Bool) (xs : List ℕ) (bs v : List Bool) (ys : List ℕ) → Moves o w (Some xs) bs v (Some ys) → Has (length bs) (at w xs)
moved_has o w xs bs v ys moved = omega (arith, ap length moved.0, length-seen o w xs, length-append bs (seen o (at v ys)))

-- a window of eight that is put back is as many bits
pub normal-count : (S : Stream) → length (normal S).window + 8 * length (normal S).bytes ≡ length S.window + 8 * length S.bytes
unfolding normal
normal-count S = ⊎_elim
    (λ (e : length S.window ≡ 8). rw (eq-eqb (length S.window) 8 e) (omega arith))
    (λ (e : length S.window ≡ 8 → ⊥). rw (ne_eqb (length S.window) 8 e) refl)
    (cases_eq (length S.window) 8)

-- bits that are seen first are taken
first_bits : (o : Order) (S : Stream) (a b : List Bool) → seen o S ≡ a ++ b → taken o (length a) S ≡ a
unfolding taken
first_bits o S a b e = ap (take (length a)) e ∙ take_at a b (length a) refl

-- ---- what a read returns
-- bits were taken
pub takes_ok : (o : Order) (w : List Bool) (t : Option (List ℕ)) (c n : ℕ) (bs v : List Bool) (u : Option (List ℕ))
    → length bs ≡ n → length w ≤ 8 → c + n < 2 ^ 64 → Moves o w t bs v u → (0 < length bs → length v < 8) → (length bs ≡ 0 → (v ≡ w) × (u ≡ t))
    → TakesBits o n false (Going (stream_of w t) c) (Ok bs) (Going (stream_of v u) (c + length bs))
takes_ok o w None c n bs v u len l room moved short none = inr (room, inl (bs, stream_of v u, len, refl, ap (λ k. Going (stream_of v u) (c + k)) len))
takes_ok o w (Some xs) c n bs v None len l room moved short none = absurd moved
takes_ok o w (Some xs) c n bs v (Some ys) len l room moved short none =
    let S : Stream = at w xs in
    let m : ℕ = length bs in
    let enough : Has m S = moved_has o w xs bs v ys moved in
    let rest : left o m S ≡ at v ys = moved_left o w xs bs v ys l moved short none in
    let first : taken o m S ≡ bs = first_bits o S bs (seen o (at v ys)) moved.0 in
    let peek = peek_law o m S l enough in
    let has : Has m (normal S) = omega (arith, normal-count S) in
    let values : bs ≡ taken o m (normal S) = sym first ∙ peek.0 in
    let streams : normal (at v ys) ≡ left o m (normal S) = ap normal (sym rest) ∙ peek.1 in
    rw (← len) (inr (rw len room, inl (has, ap Ok values, ap (λ T. Going (Some T) (c + m)) streams)))

-- a transfer failed
pub takes_err : {after : Option Stream} (o : Order) (w : List Bool) (t : Option (List ℕ)) (c n : ℕ) (f g : Health) (kind : ErrorKind) (stop : Fault)
    → ((kind ≡ UnexpectedEof) × (stop ≡ fault.Incomplete (record { bits = n }))) ⊎ ((kind ≢ UnexpectedEof) × (stop ≡ fault.Io kind))
    → c + n < 2 ^ 64 → (kind ≡ UnexpectedEof → FewerBits n w t) → (kind ≢ UnexpectedEof → DeviceFailed f g) → DeviceKept f g
    → Outcome (TakesBits o n) (Going (stream_of w t) c) f (Err (error_of stop)) (Stopped after (error_of stop) c) g
takes_err {after} o w t c n f g kind stop (inr p) room ended failed kept =
    let e : error_of stop ≡ error.Io kind = ap error_of p.1 in
    let answered = ap Err e in
    let stays = ap (λ x. Stopped after x c) e in
    Broken (record { kind = kind; count = c; left = after; answered = answered; kept = stays }) (kind, answered, after, tt, stays) (failed p.0)
takes_err {after} o w None c n f g kind stop (inl p) room ended failed kept =
    let e : error_of stop ≡ error.Incomplete (record { bits = n }) = ap error_of p.1 in
    Quiet (inr (room, inr (ap Err e, after, ap (λ x. Stopped after x c) e))) kept
takes_err {after} o w (Some xs) c n f g kind stop (inl p) room ended failed kept =
    let e : error_of stop ≡ error.Incomplete (record { bits = n }) = ap error_of p.1 in
    let S : Stream = at w xs in
    let few : length (normal S).window + 8 * length (normal S).bytes < n = omega (arith, normal-count S, ended p.0) in
    Quiet (inr (room, inr (few, (ap Err e, after, ap (λ x. Stopped after x c) e)))) kept

-- ---- what is admitted
-- a reader's standing admits what the state does that it is seen as
pub reader_admits : (t : Option (List ℕ)) (s : Standing (List Bool)) (n : ℕ) (r : Result (Unit {0}) DekuError) → Admits n s r → Admits n (reader_state t s) r
reader_admits t (Going w c) n r p = p
reader_admits t (Stopped w e c) n r p = p

-- what goes on has no kept fault, and room for the count
pub admitted : {A : Type 0} (a : A) (f : Option Fault) (c n : ℕ) → Admits n (standing_of a f c) (Ok tt) → (f ≡ None) × (c + n < 2 ^ 64)
admitted a None c n (inl p) = let h = p.1.2 in absurd (cc)
admitted a None c n (inr p) = (refl, p.0)
admitted a (Some f) c n p = absurd (cc)

-- what is admitted does not depend on what it goes on with
pub admits_any : {A B : Type 0} (a : A) (b : B) (f : Option Fault) (c n : ℕ) (r : Result (Unit {0}) DekuError) → Admits n (standing_of a f c) r → Admits n (standing_of b f c) r
admits_any a b None c n r p = p
admits_any a b (Some f) c n r p = p

-- no transfer was needed, and the source stays
pub needs_none : {D : Type 0} (w : List Bool) (c n : ℕ) (old new : D) → c + n < 2 ^ 64 → (n ≤ length w → new ≡ old) → NeedsNone n (Going w c) → new ≡ old
needs_none w c n old new fits same (inl inside) = same inside
needs_none w c n old new fits same (inr past) = absurd (omega (arith, fits, past))
