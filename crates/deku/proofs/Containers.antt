-- Readers and writers that are made for one call, over memory.
pub use Rattle.deku_bits.proofs.Handing.{unbroken}
use Rattle.std.proofs.Common.{◌≡◌, ℕ, ◌-◌, ◌/◌, ◌%◌, ◌^◌, ◌<◌, ◌≤◌, Bool, true, false, Result, Ok, Err, Option, Some, None, IsErrAnd, IfOk, IfErr, IfSome, List, [], ◌++◌, length, take, drop, Bor, MutBor, refl, ap, sym, ◌∙◌, subst, inl, inr, arith, nat_le, if◌then◌else◌, append-nil}
use Rattle.std.proofs.Math.Dec.{leb-zero}
use Rattle.std.proofs.lemmas.List.{take_rest}
use Rattle.std.proofs.lemmas.Result.{err_from_is_err_and}
use Rattle.std.specs.Global.{Vec}
use Rattle.std.specs.Io.Cursor.{cursor_position, cursor_inner}
use Rattle.std.specs.Io.KnownBytes.{Appends}
use Rattle.std.specs.declared.io.Cursor.{Cursor}
use Rattle.std.specs.declared.io.ErrorKind.TheVariants.{OutOfMemory}
use Rattle.deku_bits.specs.declared.ctx.Order.TheVariants.{Msb0}
use Rattle.deku_bits.specs.declared.error.NeedSize.{NeedSize}
use Rattle.deku_bits.specs.declared.error.DekuError.{DekuError}
use Rattle.deku_bits.specs.declared.error.DekuError.TheVariants.{Incomplete, Io}
use Rattle.deku_bits.specs.Bits.{bits_in, groups}
use Rattle.deku_bits.specs.Streams.{Stream, fresh, normal}
use Rattle.deku_bits.specs.Writers.{Pending, Nothing, append, pending_bits}
use Rattle.deku_bits.specs.Devices.{Health, Whole, KnownSource, KnownSink, bytes_before}
use Rattle.deku_bits.specs.Cursors.{slice_whole, vector_whole}
use Rattle.deku_bits.specs.Standings.{Standing, Going, Stopped, Output, count_of, reader_state, writer_state}
use Rattle.deku_bits.specs.Outcomes.{Meaning}
use Rattle.deku_bits.specs.WriterCalls.{Finalizes, WritesBits, pending_of}
use Rattle.deku_bits.proofs.Handing.{by_name}
use Rattle.deku_meanings.specs.Composing.{Both, Second, First}
use Rattle.deku_reading.specs.Early.{PromptlyAt}
use Rattle.deku_reading.proofs.Early.{whole_behind}
use Rattle.deku.specs.Wholes.{Behind, FromFirst, TellsBehind, ReadsBytesOnce, WritesOver, WritesBare, in_memory, output_in, over}

-- ---- what a source reports
-- a reader that was made for one call and fetched no byte too early
pub told_behind : {known after : KnownSource} {u : Standing (List Bool)} → PromptlyAt known (Going [] 0) after u → TellsBehind (count_of u) known after
told_behind {known} {after} {u} p = by_told known.remaining refl
  where
    by_told : (now : Option (List ℕ)) → known.remaining ≡ now → IfSome now (λ bytes. after.remaining ≡ Some (drop (groups (count_of u)) bytes))
    by_told None e = tt
    by_told (Some bytes) e = whole_behind known after u p bytes e

-- ---- memory as a sink
-- a fresh writer onto an empty vector
pub starts_empty : (place : ℕ) (xs : List ℕ) (h : Health) (st : Standing Pending) → place ≡ 0 → xs ≡ [] → st ≡ Going Nothing 0
    → writer_state (record { taken = bytes_before place xs; room = None; health = h }) st ≡ Going in_memory 0
starts_empty place xs h st p e s = rw (p, e, s) refl

-- the bytes below a cursor, and those before its place
abbrev pub below : Cursor (Vec ℕ) → List ℕ
below k = (cursor_inner k).items

abbrev pub before : Cursor (Vec ℕ) → Option (List ℕ)
before k = bytes_before (cursor_position k) (cursor_inner k).items

abbrev pub place_of : Cursor (Vec ℕ) → ℕ
place_of k = cursor_position k

abbrev pub items_in : Vec ℕ → List ℕ
items_in v = v.items

-- a device that reports that it does not fail, and all its bytes
abbrev pub steady : Option Whole → Health
steady w = record { failures = Some 0; lenders = []; whole = w }

-- what a cursor over a vector reports
abbrev pub tells : Cursor (Vec ℕ) → KnownSink
tells k = record { taken = before k; room = None; health = steady (vector_whole k) }

-- the bytes before a place, where they are known
pub before_is : (place : ℕ) (xs bytes : List ℕ) → bytes_before place xs ≡ Some bytes → take place xs ≡ bytes
before_is place xs bytes = go (nat_le place (length xs))
  where
    go : (b : Bool) → (if b then Some (take place xs) else None) ≡ Some bytes → take place xs ≡ bytes
    go true e = cc
    go false e = absurd (cc)

pub taken_before : (place : ℕ) (xs ys : List ℕ) (t : Option (List ℕ)) → t ≡ bytes_before place xs → ys ≡ take place xs → IfSome t (λ bytes. ys ≡ bytes)
taken_before place xs ys None e f = tt
taken_before place xs ys (Some bytes) e f = f ∙ before_is place xs bytes (sym e)

-- ---- what was padded
goes_on : (m : Meaning Output (Unit {0})) (s u : Standing Output) → Both m Finalizes false s (Ok tt) u → (out : Output) × (c : ℕ) × (u ≡ Going out c)
goes_on m s u (First e p q) = absurd (cc)
goes_on m s u (Second v (Stopped a e c) p q) = let f = q.0 in absurd (cc)
goes_on m s u (Second v (Going a c) p (inl q)) = let f = q.1.2 in absurd (cc)
goes_on m s u (Second v (Going a c) p (inr (h, inl q))) = (q.0, _, q.3)
goes_on m s u (Second v (Going a c) p (inr (h, inr q))) = let f = q.3 in absurd (cc)

-- a writer that was padded goes on, with what its sink reports
pub padded_on : (m : Meaning Output (Unit {0})) (s : Standing Output) (known : KnownSink) (st : Standing Pending) → Both m Finalizes false s (Ok tt) (writer_state known st)
    → (out : Output) × (c : ℕ) × Both m Finalizes false s (Ok tt) (Going out c) × (out.taken ≡ known.taken) × (out.room ≡ known.room)
padded_on m s known (Going pending count) w = (record { taken = known.taken; room = known.room; pending = pending }, count, w, refl, refl)
padded_on m s known (Stopped p e c) w = let k = goes_on m s (writer_state known (Stopped p e c)) w in let f = k.2 in absurd (cc)

-- the same from where a writer stood
pub padded_from : (m : Meaning Output (Unit {0})) (s t : Standing Output) (known : KnownSink) (st : Standing Pending) → s ≡ t → Both m Finalizes false s (Ok tt) (writer_state known st)
    → (out : Output) × (c : ℕ) × Both m Finalizes false t (Ok tt) (Going out c) × (out.taken ≡ known.taken) × (out.room ≡ known.room)
padded_from m s t known st e w = padded_on m t known st (subst (λ x. Both m Finalizes false x (Ok tt) (writer_state known st)) e w)

-- a refusal from where a writer stood
pub refused_from : (m : Meaning Output (Unit {0})) (s t : Standing Output) (e : DekuError) (u : Standing Output) → s ≡ t → Both m Finalizes false s (Err e) u
    → (v : Standing Output) × Both m Finalizes false t (Err e) v
refused_from m s t e u p w = (u, subst (λ x. Both m Finalizes false x (Err e) u) p w)

-- ---- memory as a source
-- the bytes of a cursor from its place on
abbrev pub whole_source : Cursor (Bor (List ℕ)) → Option (List ℕ)
whole_source k = Some (drop (cursor_position k) (cursor_inner k).now)

-- a cursor that is new reports the bytes that it is over
pub new_source : (k : Cursor (Bor (List ℕ))) (b : Bor (List ℕ)) → cursor_inner k ≡ b → cursor_position k ≡ 0 → whole_source k ≡ Some b.now
new_source k b e f = rw (e, f) refl

-- a fresh reader is before the bytes that its source reports
pub starts_fresh : (remaining : Option (List ℕ)) (bytes : List ℕ) (st : Standing (List Bool)) → remaining ≡ Some bytes → st ≡ Going [] 0 → reader_state remaining st ≡ Going (Some (fresh bytes)) 0
unfolding normal
starts_fresh remaining bytes st e f = rw (e, f) refl

-- the count of a reader is that of its state
pub counted_state : (remaining : Option (List ℕ)) (st : Standing (List Bool)) (n : ℕ) → n ≡ count_of st → n ≡ count_of (reader_state remaining st)
counted_state remaining (Going window count) n e = e
counted_state remaining (Stopped window fault count) n e = e

module _ {V : Type 0} (n : ℕ) (m : Meaning (Option Stream) V) (bytes : List ℕ) (s u : Standing (Option Stream)) (start : s ≡ Going (Some (fresh bytes)) 0) where
  -- from the first byte on
  from_first : (r : Result V DekuError) → Behind n m false s r u → FromFirst (Behind n m) bytes r u
  from_first r w = subst (λ x. Behind n m false x r u) start w

  -- what a `?` hands on
  pub refused_bytes : (e : DekuError) (r : Result ((Bor (List ℕ) × ℕ) × V) DekuError) → IsErrAnd r (λ x. x ≡ e) → Behind n m false s (Err e) u → ReadsBytesOnce (Behind n m) bytes r
  refused_bytes e r h w = let k = err_from_is_err_and r h in rw (k.1, k.2) (inl (u, from_first (Err e) w))

  -- more bytes were left out than there are
  pub short_bytes : (v : V) (count : ℕ) (need : NeedSize) → Behind n m false s (Ok v) u → count ≡ count_of u → length bytes < count / 8 → need.bits ≡ count
      → ReadsBytesOnce (Behind n m) bytes (Err (Incomplete need))
  short_bytes v count need w e l f = inr (v, u, from_first (Ok v) w, (rw (sym e) l), ap (λ b. Incomplete (record { bits = b })) (f ∙ e))

  -- the rest of the bytes
  pub rest_bytes : (v : V) (count : ℕ) (rest : Bor (List ℕ)) → Behind n m false s (Ok v) u → count ≡ count_of u → count / 8 ≤ length bytes → rest.now ≡ take (length bytes - count / 8) (drop (count / 8) bytes)
      → ReadsBytesOnce (Behind n m) bytes (Ok ((rest, count % 8), v))
  rest_bytes v count rest w e l f = (u, from_first (Ok v) w, record { within = rw (sym e) l; bytes_behind = f ∙ take_rest bytes (count / 8) ∙ ap (λ k. drop (k / 8) bytes) e; bits_behind = ap (λ k. k % 8) e })

-- ---- a slice as a sink
nothing_before : (xs : List ℕ) → bytes_before 0 xs ≡ Some []
nothing_before xs = rw (leb-zero (length xs)) refl

-- a fresh writer over a slice
pub starts_over : (place : ℕ) (xs ys : List ℕ) (h : Health) (st : Standing Pending) → place ≡ 0 → xs ≡ ys → st ≡ Going Nothing 0
    → writer_state (record { taken = bytes_before place xs; room = Some (drop place xs); health = h }) st ≡ Going (over ys) 0
starts_over place xs ys h st p e s = rw (p, s) (
    ap (λ t. Going (record { taken = t; room = Some xs; pending = Nothing }) 0) (nothing_before xs)
    ∙ ap (λ zs. Going (record { taken = Some []; room = Some zs; pending = Nothing }) 0) e)

-- what a cursor over a slice reports
abbrev pub tells_over : Cursor (MutBor (List ℕ)) → KnownSink
tells_over k = record {
  taken = bytes_before (cursor_position k) (cursor_inner k).now;
  room = Some (drop (cursor_position k) (cursor_inner k).now);
  health = by_name (cursor_inner k).ghost_name (steady (slice_whole k));
}

-- what a writer that was refused goes on, or has stopped, with is what its sink reports
told_out : (known : KnownSink) (st : Standing Pending) → ((output_in (writer_state known st)).taken ≡ known.taken) × ((output_in (writer_state known st)).room ≡ known.room)
told_out known (Going p c) = (refl, refl)
told_out known (Stopped p e c) = (refl, refl)

-- a refusal, and the slice
pub refused_over : (m : Meaning Output (Unit {0})) (s : Standing Output) (old : List ℕ) (e : DekuError) (k : Cursor (MutBor (List ℕ))) (st : Standing Pending) → s ≡ Going (over old) 0
    → Both m Finalizes false s (Err e) (writer_state (tells_over k) st) → WritesOver (Both m Finalizes) old (Err e) (cursor_inner k).now
refused_over m s old e k st start w =
    let known = told_out (tells_over k) st in
    (writer_state (tells_over k) st, subst (λ x. Both m Finalizes false x (Err e) (writer_state (tells_over k) st)) start w, cursor_position k, known.0, known.1)

-- ---- what is not padded
-- an empty write is refused by a kept fault alone
pub empty_refused : (s u : Standing Output) (e : DekuError) → count_of s < 2 ^ 64 → WritesBits Msb0 [] false s (Err e) u → (left : Output) × (c : ℕ) × (s ≡ Stopped left e c)
unfolding append
empty_refused (Stopped out d c) u e l p = (out, c, let f : e ≡ d = cc in ap (λ x. Stopped out x c) (sym f))
empty_refused (Going a c) u e l (inl p) = absurd (let h = p.0 in omega arith)
empty_refused (Going a c) u e l (inr (h, inl p)) = let f = p.2 in absurd (cc)
empty_refused (Going a c) u e l (inr (h, inr p)) = absurd (let k = p.1 in omega arith)

-- an empty write changes nothing
record Unchanged (s u : Standing Output) : Type 0 where
  out : Output
  count : ℕ
  after : Output
  count_after : ℕ
  goes : s ≡ Going out count
  goes_on : u ≡ Going after count_after
  taken : Appends out.taken after.taken []
  pending : after.pending ≡ out.pending

empty_written : (s u : Standing Output) → WritesBits Msb0 [] false s (Ok tt) u → Unchanged s u
unfolding append
empty_written (Stopped out d c) u p = let f = p.0 in absurd (cc)
empty_written (Going a c) u (inl p) = let f = p.1.2 in absurd (cc)
empty_written (Going a c) u (inr (h, inl p)) =
    record { out = a; count = c; after = p.0; count_after = _; goes = refl; goes_on = p.3; taken = p.1.taken; pending = p.1.pending }
empty_written (Going a c) u (inr (h, inr p)) = let f = p.3 in absurd (cc)

bits_taken : (before now : Option (List ℕ)) (ys : List ℕ) (bits last : List Bool) → Appends before now [] → IfSome now (λ bytes. ys ≡ bytes) → bits ≡ bits_in ys ++ last
    → IfSome before (λ bytes. bits ≡ bits_in bytes ++ last)
bits_taken None now ys bits last a k e = tt
bits_taken (Some xs) None ys bits last a k e = absurd a
bits_taken (Some xs) (Some zs) ys bits last a k e = e ∙ ap (λ b. bits_in b ++ last) (k ∙ a ∙ append-nil xs)

module _ (m : Meaning Output (Unit {0})) (s t : Standing Output) (start : s ≡ Going in_memory 0) (done : m false s (Ok tt) t) where
  from_nothing : (u : Standing Output) → t ≡ u → m false (Going in_memory 0) (Ok tt) u
  from_nothing u e = subst (λ x. m false (Going in_memory 0) (Ok tt) x) e (subst (λ x. m false x (Ok tt) t) start done)

  -- the writer was stopped by a fault that was not handed on
  pub bare_stopped : (u : Standing Output) (e : DekuError) (r : Result (Vec Bool) DekuError) → IsErrAnd r (λ x. x ≡ e) → count_of t < 2 ^ 64 → WritesBits Msb0 [] false t (Err e) u → WritesBare m r
  bare_stopped u e r h l w = let k = err_from_is_err_and r h in let d = empty_refused t u e l w in rw (k.1, k.2) (inr (inl (d.0, d.1, from_nothing (Stopped d.0 e d.1) d.2)))

  -- the bits were put together, or no memory was found for them
  pub bare_written : (known : KnownSink) (p : Standing Pending) (ys : List ℕ) (last : List Bool) → WritesBits Msb0 [] false t (Ok tt) (writer_state known p)
      → IfSome known.taken (λ bytes. ys ≡ bytes) → last ≡ pending_bits (pending_of p)
      → (r : Result (Vec Bool) DekuError) → IfOk r (λ v. v.items ≡ bits_in ys ++ last) → IfErr r (λ e. e ≡ Io OutOfMemory) → WritesBare m r
  bare_written known (Stopped q e c) ys last w a l r ok err = let d = empty_written t (writer_state known (Stopped q e c)) w in let f = d.goes_on in absurd (cc)
  bare_written known (Going q c) ys last w a l (Err e) ok err =
      let d = empty_written t (writer_state known (Going q c)) w in inr (inr (d.out, d.count, from_nothing (Going d.out d.count) d.goes, err))
  bare_written known (Going q c) ys last w a l (Ok v) ok err =
      let d = empty_written t (writer_state known (Going q c)) w in
      let out : Output = record { taken = known.taken; room = known.room; pending = q } in
      let same : out ≡ d.after = going (Going out c) out d.after c d.count_after refl d.goes_on in
      let kept : q ≡ d.out.pending = ap (λ o. o.pending) same ∙ d.pending in
      let bits : v.items ≡ bits_in ys ++ pending_bits d.out.pending = ok ∙ ap (λ b. bits_in ys ++ b) (l ∙ ap pending_bits kept) in
      (d.out, d.count, from_nothing (Going d.out d.count) d.goes, bits_taken d.out.taken known.taken ys v.items (pending_bits d.out.pending) (subst (λ o. Appends d.out.taken o.taken []) (sym same) d.taken) a bits)
    where
      going : (u : Standing Output) (a b : Output) (m n : ℕ) → u ≡ Going a m → u ≡ Going b n → a ≡ b
      going u a b m n e f = cc

-- the count of a writer is below what a `usize` counts
pub counted_writer : (known : KnownSink) (st : Standing Pending) (n : ℕ) → n ≡ count_of st → n < 2 ^ 64 → count_of (writer_state known st) < 2 ^ 64
counted_writer known (Going pending count) n e l = omega (arith, e)
counted_writer known (Stopped pending fault count) n e l = omega (arith, e)
