-- What a call on a writer did.
use Rattle.std.proofs.Common.{◌≡◌, ℕ, zero, suc, ◌+◌, ◌-◌, ◌*◌, ◌/◌, ◌%◌, ◌^◌, ◌<◌, ◌≤◌, Bool, false, List, [], ◌∷◌, ◌++◌, length, reverse, replicate, refl, sym, ap, ap₂, ◌∙◌, arith, Option, Some, None, Result, Ok, Err, length-append, codes, add-one, inl, inr, subst, Bor}
use Rattle.std.proofs.lemmas.List.{length-replicate, replicate_more}
use Rattle.std.proofs.lemmas.Grind.{reverse_onto}
use Rattle.std.specs.declared.io.ErrorKind.{ErrorKind}
use Rattle.std.specs.Prelude.{◌==◌}
use Rattle.deku_stream.specs.declared.ctx.Order.{Order}
use Rattle.deku_stream.specs.declared.ctx.Order.TheVariants.{Msb0, Lsb0}
use Rattle.deku_stream.specs.declared.error.DekuError.{DekuError}
use Rattle.deku_stream.specs.declared.error.DekuError.TheVariants.{InvalidParam, Io}
use Rattle.deku_stream.specs.declared.error.Fault.{Fault}
use Rattle.deku_stream.specs.Bits.{bin, group_number, word_of, facing, shown}
use Rattle.deku_stream.specs.Pieces.{filled}
use Rattle.deku_stream.specs.Writers.{Pending, Nothing, held, pending_bits, Written, cut, append, padded, finalized}
use Rattle.deku_device.specs.Devices.{KnownSink, Gave, LacksRoom, More}
use Rattle.deku_stream.specs.Standings.{Standing, Going, Stopped, Output, output_of, writer_state}
use Rattle.deku_stream.specs.Outcomes.{Quiet, Broken, Breaks, CountsBits}
use Rattle.deku_writer.specs.WriterCalls.{WritesAt, TookSome, GivesOut, Emits, WritesBits, WritesWord, Finalizes}
use Rattle.deku_stream.specs.Kept.{standing_of}
use Rattle.deku_writer.specs.Pushing.{onto_bytes, GaveUp, PushedOnto}
use Rattle.deku_stream.proofs.Binary.{length-facing, group_number-inj}
use Rattle.deku_stream.proofs.Handing.{weaker}
use Rattle.deku_stream.proofs.Shown.{shown_odd}
use Rattle.deku_stream.proofs.Words.{word_of-short}
use Rattle.deku_stream.proofs.Writing.{pending_bits-held}
use Rattle.deku_stream.proofs.Appends.{count_law}
use Rattle.deku_device.proofs.Failures.{no_fewer_same}
use Rattle.deku_device.proofs.Transfers.{Gave-nil}
use Rattle.deku_writer.proofs.Pushes.{emitted_one, remainder_one}
use Rattle.deku_writer.proofs.Onto.{append_same}

-- ---- a call that gives out what writing makes
module _ (write : Pending → Written) (t : KnownSink) (P : Pending) (c : ℕ) where
  emits_full : (words : Bor (List ℕ)) → 2 ^ 64 ≤ c + 8 * length (write P).bytes → words.now ≡ codes "count past usize"
      → WritesAt (Emits write) t (Going P c) (Err (InvalidParam words)) t (Going P c)
  emits_full words past says = Quiet (inl (past, (words, says, refl, refl))) (no_fewer_same t.health)

  emits_done : (after : KnownSink) (Q : Pending) (d : ℕ) → c + 8 * length (write P).bytes < 2 ^ 64 → Gave t after (write P).bytes → Q ≡ (write P).pending → d ≡ c + 8 * length (write P).bytes
      → WritesAt (Emits write) t (Going P c) (Ok tt) after (Going Q d)
  emits_done after Q d fits g p e = Quiet
      (inr (fits, inl (record { taken = after.taken; room = after.room; pending = Q }, record { taken = g.taken; room = g.room; pending = p }, refl, ap (Going (record { taken = after.taken; room = after.room; pending = Q })) e)))
      g.health

  emits_stopped : (after : KnownSink) (k : ErrorKind) → c + 8 * length (write P).bytes < 2 ^ 64 → GaveUp t after (write P).bytes k
      → WritesAt (Emits write) t (Going P c) (Err (Io k)) after (Stopped Nothing (Io k) c)
  emits_stopped after k fits f =
      let left : Output = output_of after Nothing in
      let some : TookSome (write P).bytes (output_of t P) left = record { taken = f.declined.taken; room = f.declined.room; pending = refl } in
      elim f.declined.cause [
        | inl more ↦ Broken (record { kind = k; count = c; left = left; answered = refl; kept = refl }) (k, refl, left, some, refl) more
        | inr lacks ↦ Quiet (inr (fits, inr (k, f.some, lacks, refl, left, some, refl))) f.declined.health
      ]

-- ---- a write
-- the bytes that the code counts
pub counted : (from to : Order) (h bits : List Bool) → length h < 8 → length (append to bits (held from h)).bytes ≡ (length h + length bits) / 8
counted from to h bits l =
    let n : length (pending_bits (held from h)) ≡ length h = ap length (pending_bits-held from h) in
    let k = count_law.0 to bits (held from h) (omega arith) in
    omega (arith, k.0, k.1)

pub write_nothing : (t : KnownSink) (from to : Order) (h bits : List Bool) (w : ℕ) → length bits ≡ 0 → w < 2 ^ 64
    → WritesAt (WritesBits to bits) t (standing_of (held from h) None w) (Ok tt) t (standing_of (held from h) None w)
unfolding append
write_nothing t from to h [] w n s = emits_done (append to []) t (held from h) w t (held from h) w (omega arith) (Gave-nil t) refl (omega arith)
write_nothing t from to h (b ∷ bits) w n s = absurd (omega arith)

pub write_full : (t : KnownSink) (from to : Order) (h bits : List Bool) (w n : ℕ) (words : Bor (List ℕ)) → length h < 8 → n ≡ (length h + length bits) / 8 → (2 ^ 64 - 1 - w) / 8 < n
    → words.now ≡ codes "count past usize" → WritesAt (WritesBits to bits) t (standing_of (held from h) None w) (Err (InvalidParam words)) t (standing_of (held from h) None w)
write_full t from to h bits w n words l e past says =
    emits_full (append to bits) t (held from h) w words (rw (counted from to h bits l, ← e) (omega arith)) says

pub write_done : (t after : KnownSink) (from to : Order) (h hs bits : List Bool) (w n : ℕ) → length h < 8 → n ≡ (length h + length bits) / 8 → n ≤ (2 ^ 64 - 1 - w) / 8 → w < 2 ^ 64
    → PushedOnto t after from to h hs bits → WritesAt (WritesBits to bits) t (standing_of (held from h) None w) (Ok tt) after (standing_of (held to hs) None (w + 8 * n))
write_done t after from to h hs bits w n l e fits s m =
    let b : length (append to bits (held from h)).bytes ≡ n = counted from to h bits l ∙ sym e in
    emits_done (append to bits) t (held from h) w after (held to hs) (w + 8 * n) (rw b (omega arith)) m.gave m.rest (rw b refl)

pub write_stopped : (t after : KnownSink) (from to : Order) (h bits : List Bool) (w n : ℕ) (k : ErrorKind) → length h < 8 → n ≡ (length h + length bits) / 8 → n ≤ (2 ^ 64 - 1 - w) / 8 → w < 2 ^ 64
    → GaveUp t after (onto_bytes from to h bits) k → WritesAt (WritesBits to bits) t (standing_of (held from h) None w) (Err (Io k)) after (Stopped Nothing (Io k) w)
write_stopped t after from to h bits w n k l e fits s f =
    let b : length (append to bits (held from h)).bytes ≡ n = counted from to h bits l ∙ sym e in
    emits_stopped (append to bits) t (held from h) w after k (rw b (omega arith)) f

pub some_bits : (s : List Bool) → false ≡ (length s == 0) → 0 < length s
some_bits [] e = cc
some_bits (b ∷ s) e = omega arith

-- ---- the padding, as a write of zeros
reverse-replicate : (n : ℕ) (x : Bool) → reverse (replicate n x) ≡ replicate n x
reverse-replicate zero x = refl
reverse-replicate (suc n) x = reverse_onto (replicate n x) x [] ∙ ap (λ l. l ++ x ∷ []) (reverse-replicate n x) ∙ replicate_more n x ∙ ap (λ m. replicate m x) (add-one n)

shown_zeros : (o : Order) (n : ℕ) → 0 < n → n < 8 → shown o (replicate n false) ≡ replicate n false
unfolding shown
shown_zeros Msb0 n p l = refl
shown_zeros Lsb0 n p l = shown_odd (replicate n false) (λ e. omega (arith, length-replicate n false)) ∙ reverse-replicate n false

finalized_is : (o : Order) (h : List Bool) → length h < 8 → append o (replicate ((8 - length h) % 8) false) (held o h) ≡ finalized (held o h)
unfolding append padded
finalized_is Msb0 [] l = refl
finalized_is Lsb0 [] l = refl
finalized_is o (b ∷ s) l =
    let h : List Bool = b ∷ s in
    let n : ℕ = 8 - length h in
    let z : (8 - length h) % 8 ≡ n = omega arith in
    let f : List Bool = facing o h in
    let lf : length f ≡ length h = length-facing o h in
    let g : List Bool = f ++ replicate n false in
    let lg : length g ≡ 8 = omega (arith, length-append f (replicate n false), length-replicate n false) in
    let same : g ≡ filled f = ap (λ k. f ++ replicate (8 - k) false) (sym lf) in
    ap (λ k. append o (replicate k false) (held o h)) z
    ∙ append_same o h (replicate n false) (rw (length-replicate n false) (omega arith))
    ∙ ap (λ x. cut o (f ++ x)) (shown_zeros o n (omega arith) (omega arith))
    ∙ ap₂ (λ x y. record { bytes = x; pending = held o (facing o y) }) (emitted_one o g lg) (remainder_one g lg)
    ∙ ap (λ P. record { bytes = group_number o g ∷ []; pending = P }) (none o)
    ∙ ap (λ x. record { bytes = group_number o x ∷ []; pending = Nothing }) same
  where
    none : (o : Order) → held o (facing o []) ≡ Nothing
    none Msb0 = refl
    none Lsb0 = refl

same_emits : (write other : Pending → Written) (t after : KnownSink) (P : Pending) (c : ℕ) (r : Result (Unit {0}) DekuError) (u : Standing Pending) → write P ≡ other P
    → WritesAt (Emits write) t (Going P c) r after u → WritesAt (Emits other) t (Going P c) r after u
same_emits write other t after P c r u e m = elim m [
  | Quiet q h ↦ Quiet (subst (λ W. CountsBits (8 * length W.bytes) (GivesOut W) (output_of t P) c r (writer_state after u)) e q) h
  | Broken f b h ↦ Broken f (subst (λ W. Breaks (TookSome W.bytes (output_of t P)) c r (writer_state after u)) e b) h
]

-- a word of no more than seven bits that is 0
zeros_number : (n : ℕ) → bin (replicate n false) ≡ 0
zeros_number zero = refl
zeros_number (suc n) = rw (zeros_number n) (omega arith)

zeros_group : (o : Order) (n : ℕ) → group_number o (replicate n false) ≡ 0
zeros_group Msb0 n = zeros_number n
zeros_group Lsb0 n = ap bin (reverse-replicate n false) ∙ zeros_number n

only_zeros : (o : Order) (n : ℕ) (bits : List Bool) → n < 8 → length bits ≡ n → word_of o bits ≡ 0 → bits ≡ replicate n false
only_zeros o n bits l e w =
    group_number-inj o bits (replicate n false) (e ∙ sym (length-replicate n false))
    (sym (word_of-short o bits (omega (arith, l, e))) ∙ w ∙ sym (zeros_group o n))

shown_none : (o : Order) → shown o [] ≡ []
unfolding shown
shown_none Msb0 = refl
shown_none Lsb0 = refl

any_zeros : (o : Order) (n : ℕ) → n < 8 → shown o (replicate n false) ≡ replicate n false
any_zeros o zero l = shown_none o
any_zeros o (suc n) l = shown_zeros o (suc n) (omega arith) l

pub zeros_written : (o : Order) (n : ℕ) (t : KnownSink) (s : Standing Pending) (r : Result (Unit {0}) DekuError) (after : KnownSink) (u : Standing Pending) → n < 8
    → WritesAt (WritesWord o n 0) t s r after u → WritesAt (WritesBits o (replicate n false)) t s r after u
zeros_written o n t s r after u l m =
    weaker (WritesWord o n 0) (WritesBits o (replicate n false)) (writer_state t s) t.health r (writer_state after u) after.health
    (λ b x.
    let zeros : shown o x.0 ≡ replicate n false = ap (shown o) (only_zeros o n x.0 l x.1 x.2) ∙ any_zeros o n l in
    subst (λ bits. WritesBits o bits b (writer_state t s) r (writer_state after u)) zeros x.3) m

pub finalizes : (o : Order) (h : List Bool) (w : ℕ) (f : Option Fault) (t after : KnownSink) (r : Result (Unit {0}) DekuError) (u : Standing Pending) → length h < 8
    → WritesAt (WritesBits o (replicate ((8 - length h) % 8) false)) t (standing_of (held o h) f w) r after u → WritesAt Finalizes t (standing_of (held o h) f w) r after u
finalizes o h w None t after r u l m = same_emits (append o (replicate ((8 - length h) % 8) false)) finalized t after (held o h) w r u (finalized_is o h l) m
finalizes o h w (Some f) t after r u l m = elim m [ Quiet q n ↦ Quiet q n | Broken b q n ↦ Broken b q n ]

-- ---- a sink that has room, and whose calls do not fail
pub succeeds_with_room : (write : Pending → Written) (t after : KnownSink) (P : Pending) (c : ℕ) (room : List ℕ) (r : Result (Unit {0}) DekuError) (u : Standing Pending)
    → t.room ≡ Some room → t.health.failures ≡ Some 0 → after.health.failures ≡ Some 0 → c + 8 * length (write P).bytes < 2 ^ 64 → length (write P).bytes ≤ length room
    → WritesAt (Emits write) t (Going P c) r after u → r ≡ Ok tt
succeeds_with_room write t after P c room r u has none still fits enough m = elim m [
  | Quiet q h ↦ elim q as (λ q. r ≡ Ok tt) [
    | inl past ↦ absurd (omega (arith, past.0))
    | inr moved ↦ elim moved.1 as (λ q. r ≡ Ok tt) [
      | inl done ↦ done.2
      | inr lacks ↦ absurd (let l : LacksRoom (Some room) (length (write P).bytes) lacks.0 = rw has at lacks.2 in omega (arith, l.1))
    ]
  ]
  | Broken f b more ↦ absurd (let l : More (Some 0) (Some 0) = rw (none, still) at more.failures in omega (arith, l))
]
