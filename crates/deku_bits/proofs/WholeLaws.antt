-- Laws of devices that say all their bytes.
use Rattle.std.proofs.Common.{◌≡◌, ℕ, ◌+◌, ◌*◌, ◌^◌, ◌<◌, ◌≤◌, Bool, false, List, [], ◌∷◌, ◌++◌, length, take, drop, All, Option, Some, None, Result, Ok, Err, refl, sym, ap, ap₂, ◌∙◌, arith, inl, inr, ⊎_elim, subst₂, get_or, suc, zero}
use Rattle.std.proofs.lemmas.List.{places, take-append-drop, length-take-le, take_at}
use Rattle.std.proofs.lemmas.List.Elements.{All-take, All-from_get_or}
use Rattle.std.proofs.lemmas.Bool.{cases_lt, lt-leb, le-leb}
use Rattle.deku_stream.specs.declared.ctx.Order.{Order}
use Rattle.deku_stream.specs.declared.ctx.Order.TheVariants.{Msb0, Lsb0}
use Rattle.deku_stream.specs.declared.error.DekuError.{DekuError}
use Rattle.deku_stream.specs.Bits.{bits_in, bytes_of, shown}
use Rattle.deku_stream.specs.Streams.{Stream, fresh, normal, flow, seen, taken, bit_count}
use Rattle.deku_stream.specs.Writers.{Pending, Nothing, Written, append, cut, held}
use Rattle.std.specs.Io.KnownBytes.{Appends}
use Rattle.deku_device.specs.Devices.{KnownSource, KnownSink, DeviceKept, Whole, ReadOnly, Onward, GoesOnward, bytes_before}
use Rattle.deku_stream.specs.Standings.{Standing, Going, Stopped, Output, reader_state, writer_state}
use Rattle.deku_stream.specs.Outcomes.{Value, Refusal}
use Rattle.deku_reader.specs.ReaderCalls.{ReadsAt, ReadsBytes}
use Rattle.deku_writer.specs.WriterCalls.{Took, WritesAt, WritesBits}
use Rattle.deku_bits.specs.Wholes.{WholeLaw, PlainLaw}
use Rattle.deku_stream.proofs.BitPlaces.{length-bits_in}
use Rattle.deku_writer.proofs.Onto.{append_same}
use Rattle.deku_stream.proofs.Handing.{meant}
use Rattle.deku_stream.proofs.Cuts.{length-flow}
use Rattle.deku_stream.proofs.Cuts.{flow-append}
use Rattle.deku_stream.proofs.Bytes.{IsByte, shown-flow, bytes_of-bits_in}
use Rattle.deku_writer.proofs.WholeBytes.{emitted-bytes, remainder-bytes}
use Rattle.deku_device.proofs.Wholes.{transferred}

-- the bytes before a place, where it is not past the end
before_is : (p : ℕ) (b t : List ℕ) → bytes_before p b ≡ Some t → (p ≤ length b) × (take p b ≡ t)
before_is p b t e = ⊎_elim
    (λ (past : length b < p). absurd (let n = rw (lt-leb p (length b) past) at e in cc))
    (λ (inside : p ≤ length b). let s = rw (le-leb p (length b) inside) at e in (inside, cc))
    (cases_lt (length b) p)

pub holds : (w v : Whole) (t : List ℕ) → GoesOnward (Some w) (Some v) → bytes_before v.place v.bytes ≡ Some t → v.bytes ≡ t ++ drop (length t) w.bytes
holds w v t g e =
    let b = before_is v.place v.bytes t e in
    let n : length t ≡ v.place = ap length (sym b.1) ∙ length-take-le v.place v.bytes b.0 in
    let on : Onward w v = transferred (Some w) (Some v) g in
    sym (take-append-drop v.place v.bytes) ∙ ap₂ (λ x y. x ++ y) b.1 (on.back ∙ ap (λ k. drop k w.bytes) (sym n))

pub stays : (w v : Whole) → GoesOnward (Some w) (Some v) → w.access ≡ ReadOnly → v.bytes ≡ w.bytes
stays w v g e = let on : Onward w v = transferred (Some w) (Some v) g in rw e at on.size

pub whole_law : WholeLaw
whole_law = (holds, stays)

-- ---- plain bytes
plain_cut : (bs : List ℕ) → All IsByte bs → cut Msb0 (bits_in bs) ≡ record { bytes = bs; pending = Nothing }
plain_cut bs h = ap₂ (λ x y. record { bytes = x; pending = held Msb0 y }) (emitted-bytes bs h) (remainder-bytes bs)

shown_is : (s : List Bool) → shown Msb0 s ≡ s
unfolding shown
shown_is s = refl

plain_nothing : append Msb0 [] Nothing ≡ record { bytes = []; pending = Nothing }
unfolding append
plain_nothing = refl

plain_write : (bs : List ℕ) → All IsByte bs → append Msb0 (bits_in bs) Nothing ≡ record { bytes = bs; pending = Nothing }
plain_write [] h = plain_nothing
plain_write (b ∷ bs) h = let some : 0 < length (bits_in (b ∷ bs)) = omega (arith, length-bits_in (b ∷ bs)) in
    append_same Msb0 [] (bits_in (b ∷ bs)) some ∙ ap (cut Msb0) (shown_is (bits_in (b ∷ bs))) ∙ plain_cut (b ∷ bs) h

flow-take : (o : Order) (n : ℕ) (bs : List ℕ) → n ≤ length bs → take (8 * n) (flow o bs) ≡ flow o (take n bs)
flow-take o n bs l =
    let parts : flow o bs ≡ flow o (take n bs) ++ flow o (drop n bs) = ap (flow o) (sym (take-append-drop n bs)) ∙ flow-append o (take n bs) (drop n bs) in
    let count : length (flow o (take n bs)) ≡ 8 * n = length-flow o (take n bs) ∙ ap (λ k. 8 * k) (length-take-le n bs l) in
    ap (take (8 * n)) parts ∙ take_at (flow o (take n bs)) (flow o (drop n bs)) (8 * n) count

seen_fresh : (o : Order) (bs : List ℕ) → seen o (normal (fresh bs)) ≡ flow o bs
unfolding normal
seen_fresh Msb0 bs = refl
seen_fresh Lsb0 bs = refl

taken_fresh : (o : Order) (n : ℕ) (bs : List ℕ) → All IsByte bs → n ≤ length bs → bytes_of (shown o (taken o (8 * n) (normal (fresh bs)))) ≡ take n bs
unfolding taken
taken_fresh o n bs h l = ap (λ s. bytes_of (shown o (take (8 * n) s))) (seen_fresh o bs) ∙ ap (λ s. bytes_of (shown o s)) (flow-take o n bs l) ∙ ap bytes_of (shown-flow o (take n bs)) ∙ bytes_of-bits_in (take n bs) (All-take IsByte n bs h)

count_fresh : (bs : List ℕ) → bit_count (normal (fresh bs)) ≡ 8 * length bs
unfolding normal
count_fresh bs = omega arith

ok_is : {V : Type 0} (x y : V) → ◌≡◌ {A = Result V DekuError} (Ok x) (Ok y) → x ≡ y
ok_is x y e = cc

plain_answer : (o : Order) (n c : ℕ) (bs xs : List ℕ) (u : Standing (Option Stream)) → All IsByte bs
    → ReadsBytes o n false (Going (Some (normal (fresh bs))) c) (Ok xs) u → (n ≤ length bs) × (xs ≡ take n bs)
plain_answer o n c bs xs u h (Refusal e p q) = absurd (cc)
plain_answer o n c bs xs u h (Value x (Refusal e p q) r) = absurd (cc)
plain_answer o n c bs xs u h (Value x (Value v (inl p) q) r) = let k = p.1.2 in absurd (cc)
plain_answer o n c bs xs u h (Value x (Value v (inr (room, inl p)) q) r) =
    let l : n ≤ length bs = omega (arith, p.0, count_fresh bs) in
    (l, ok_is xs (bytes_of x) r ∙ ap bytes_of (ok_is x (shown o v) q) ∙ ap (λ s. bytes_of (shown o s)) (ok_is v (taken o (8 * n) (normal (fresh bs))) p.1) ∙ taken_fresh o n bs h l)
plain_answer o n c bs xs u h (Value x (Value v (inr (room, inr p)) q) r) = let k = p.1.0 in absurd (cc)

plain_read : (o : Order) (n c : ℕ) (bs : List ℕ) (r : Result (List ℕ) DekuError) (u : Standing (Option Stream)) → All IsByte bs → n ≤ length bs → c + 8 * n < 2 ^ 64
    → ReadsBytes o n false (Going (Some (normal (fresh bs))) c) r u → r ≡ Ok (take n bs)
plain_read o n c bs (Ok xs) u h l fits p = ap Ok ((plain_answer o n c bs xs u h p).1)
plain_read o n c bs (Err e) u h l fits (Value x p q) = absurd (cc)
plain_read o n c bs (Err e) u h l fits (Refusal d (Value x p k) q) = absurd (cc)
plain_read o n c bs (Err e) u h l fits (Refusal d (Refusal f (inl p) k) q) = let past = p.0 in absurd (omega (arith, past, fits))
plain_read o n c bs (Err e) u h l fits (Refusal d (Refusal f (inr (room, inl p)) k) q) = let no = p.1 in absurd (cc)
plain_read o n c bs (Err e) u h l fits (Refusal d (Refusal f (inr (room, inr p)) k) q) = let lacks = p.0 in absurd (omega (arith, lacks, count_fresh bs))

-- ---- calls
-- a read of bytes at a byte's front
pub plain_got : (t t2 : KnownSource) (o : Order) (n c : ℕ) (all xs : List ℕ) (s u : Standing (List Bool)) → s ≡ Going [] c → t.remaining ≡ Some all → All IsByte all
    → ReadsAt (ReadsBytes o n) t s (Ok xs) t2 u → ((n ≤ length all) × (xs ≡ take n all)) × DeviceKept t.health t2.health
plain_got t t2 o n c all xs s u e f h m =
    let d = meant (rw (e, f) at m) in
    (plain_answer o n c all xs (reader_state t2.remaining u) h d.0, d.1)

-- what a write of bytes leaves, where nothing is pending
pub record Plainly (t t2 : KnownSink) (taken : List ℕ) (u : Standing Pending) : Type 0 where
  pub count : ℕ
  pub taken_is : t2.taken ≡ Some taken
  pub state_is : u ≡ Going Nothing count
  pub kept : DeviceKept t.health t2.health

appended : (xs bs : List ℕ) (t : Option (List ℕ)) → Appends (Some xs) t bs → t ≡ Some (xs ++ bs)
appended xs bs None g = absurd g
appended xs bs (Some ys) g = ap Some g

took_all : (t t2 : KnownSink) (bs prior : List ℕ) (w : Written) (c n : ℕ) (u : Standing Pending) (out after : Output) → w ≡ record { bytes = bs; pending = Nothing } → out.taken ≡ Some prior
    → Took w out after → writer_state t2 u ≡ Going after n → DeviceKept t.health t2.health → Plainly t t2 (prior ++ bs) u
took_all t t2 bs prior w c n (Stopped P e d) out after is first k same kept = absurd (cc)
took_all t t2 bs prior w c n (Going P d) out after is first k same kept =
    let q : after.pending ≡ Nothing = k.pending ∙ ap (λ x. x.pending) is in
    let g : Appends (Some prior) after.taken bs = subst₂ (λ x y. Appends x after.taken y) first (ap (λ x. x.bytes) is) k.taken in
    let held : P ≡ after.pending = cc in
    let known : t2.taken ≡ after.taken = cc in
    record { count = d; taken_is = known ∙ appended prior bs after.taken g; state_is = ap (λ p. Going p d) (held ∙ q); kept = kept }

-- a write of bytes where nothing is pending
pub plain_gave : (t t2 : KnownSink) (bs prior : List ℕ) (c : ℕ) (s u : Standing Pending) → s ≡ Going Nothing c → t.taken ≡ Some prior → All IsByte bs
    → WritesAt (WritesBits Msb0 (bits_in bs)) t s (Ok tt) t2 u → Plainly t t2 (prior ++ bs) u
plain_gave t t2 bs prior c s u e first h m =
    let d = meant (rw e at m) in
    elim d.0 [
      | inl p ↦ let k = p.1.2 in absurd (cc)
      | inr (room, inl (after, took, r, same)) ↦ took_all t t2 bs prior (append Msb0 (bits_in bs) Nothing) c _ u (record { taken = t.taken; room = t.room; pending = Nothing }) after (plain_write bs h) first took same d.1
      | inr (room, inr (kind, some, lacks, r, left, took, same)) ↦ absurd (cc)
    ]

-- before the first place nothing is taken
pub none_before : (b : List ℕ) → bytes_before 0 b ≡ Some []
none_before b = let yes = le-leb 0 (length b) (omega arith) in rw yes refl

byte_at : (b : ℕ) → b < 256 → (i : ℕ) → i < 1 → get_or (b ∷ []) i 0 < 256
byte_at b l zero h = l
byte_at b l (suc i) h = absurd (omega arith)

pub one_byte : (b : ℕ) → b < 256 → All IsByte (b ∷ [])
one_byte b l = All-from_get_or IsByte (b ∷ []) 0 (byte_at b l)

pub got_front : (n i : ℕ) (xs all : List ℕ) → i < n → n ≤ length all → xs ≡ take n all → get_or xs i 0 ≡ get_or all i 0
got_front n i xs all l m e = rw e (grind (arith, places))

pub got_at : (p : ℕ) (xs all : List ℕ) → 1 ≤ length (drop p all) → xs ≡ take 1 (drop p all) → get_or xs 0 0 ≡ get_or all p 0
got_at p xs all m e = got_front 1 0 xs (drop p all) (omega arith) m e ∙ grind (arith, places)

pub plain_law : PlainLaw
plain_law = (plain_write, plain_read, plain_answer)
