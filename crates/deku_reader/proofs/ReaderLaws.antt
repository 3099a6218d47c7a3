-- Laws of peeks, skips and reads.
use Rattle.std.proofs.Common.{◌≡◌, ◌⊎◌, ℕ, ◌+◌, ◌*◌, ◌≤◌, Bool, true, false, List, [], ◌∷◌, length, Option, Some, None, Result, Ok, Err, All, arith, refl, sym, ap, ◌∙◌, inl, inr, ⊎_elim}
use Rattle.std.proofs.lemmas.List.{length-take}
use Rattle.std.proofs.lemmas.List.Elements.{All-head}
use Rattle.std.specs.declared.io.ErrorKind.TheVariants.{OutOfMemory}
use Rattle.deku_stream.specs.declared.ctx.Order.{Order}
use Rattle.deku_stream.specs.declared.error.DekuError.{DekuError}
use Rattle.deku_stream.specs.declared.error.DekuError.TheVariants.{Io}
use Rattle.deku_stream.specs.Bits.{shown, bits_in, bytes_of}
use Rattle.deku_stream.specs.Streams.{Stream, Has, bit_count, seen, taken, left, normal, peeked, skipped, fresh, EndLaw}
use Rattle.deku_stream.specs.Standings.{Standing, Going, Stopped}
use Rattle.deku_stream.specs.Outcomes.{Value, Refusal, Unknown, UnlessStopped, CountsBits, Reserving}
use Rattle.deku_reader.specs.ReaderCalls.{TakesBits, Transfers, ReadsBytes, ReadsVec, SkipReadLaw, BytesLaw}
use Rattle.deku_stream.proofs.Cuts.{length-byte_bits}
use Rattle.deku_stream.proofs.Shown.{length-shown}
use Rattle.deku_stream.proofs.Taking.{peek_law, skip_law}
use Rattle.deku_stream.proofs.Handing.{memory_found}
use Rattle.deku_reader.proofs.Moving.{at, normal-count, length-seen}
use Rattle.deku_reader.proofs.Skips.{normal_peeked, peek_skip_law, skip_finds}
use Rattle.deku_stream.proofs.Bytes.{IsByte, bits_in-bytes_of, length-bytes_of}

-- ---- peeks
normal_fresh : (bs : List ℕ) → normal (fresh bs) ≡ fresh bs
unfolding normal
normal_fresh bs = refl

normal-peeked : (w : List Bool) (bs : List ℕ) → All IsByte bs → normal (peeked (at w bs)) ≡ normal (at w bs)
normal-peeked [] [] h = refl
normal-peeked [] (b ∷ bs) h = normal_peeked b bs (All-head IsByte b bs h) ∙ sym (normal_fresh (b ∷ bs))
normal-peeked (x ∷ w) bs h = refl

length-peeked : (w : List Bool) (bs : List ℕ) → length w ≤ 8 → length (peeked (at w bs)).window ≤ 8
length-peeked [] [] l = omega arith
length-peeked [] (b ∷ bs) l = omega (arith, length-byte_bits b)
length-peeked (x ∷ w) bs l = l

pub end_law : EndLaw
end_law S l h =
    let P : Stream = peeked S in
    let same : normal P ≡ normal S = normal-peeked S.window S.bytes h in
    let short : length P.window ≤ 8 = length-peeked S.window S.bytes l in
    let count : bit_count P ≡ bit_count S = sym (normal-count P) ∙ ap bit_count same ∙ normal-count S in (
      same,
      λ o n has.
          let there : Has n P = omega (arith, has, count) in
          let a = peek_law o n P short there in
          let b = peek_law o n S l has in
          (there, a.0 ∙ ap (taken o n) same ∙ sym b.0, a.1 ∙ ap (left o n) same ∙ sym b.1),
      λ o n. (peek_skip_law o n P short).0 ∙ ap (skipped o n) same ∙ sym ((peek_skip_law o n S l).0),
    )

length-taken : (o : Order) (n : ℕ) (S : Stream) → Has n S → length (taken o n S) ≡ n
unfolding taken
length-taken o n S h = omega (arith, h, length-take n (seen o S), length-seen o S.window S.bytes)

-- ---- a skip and a read
ok_is : {V : Type 0} (x y : V) → ◌≡◌ {A = Result V DekuError} (Ok x) (Ok y) → x ≡ y
ok_is x y e = cc

pub skip_read_law : SkipReadLaw
skip_read_law o n c S l has bits u v r (Refusal e p q) skips = absurd (cc)
skip_read_law o n c S l has bits u v r (Value s (inl p) e) skips = let h = p.1.2 in absurd (cc)
skip_read_law o n c S l has bits u v r (Value s (inr (_, inl p)) e) skips = let h = p.0 in absurd (cc)
skip_read_law o n c S l has bits u v r (Value s (inr (_, inr (inr p))) e) skips = let h = p.1.0 in absurd (cc)
skip_read_law o n c S l has bits u v r (Value s (inr (room, inr (inl p))) e) (inl q) = absurd (omega (arith, room, q.0))
skip_read_law o n c S l has bits u v r (Value s (inr (room, inr (inl p))) e) (inr (_, inl q)) =
    (q.1, q.2 ∙ ap (λ T. Going (Some T) (c + n)) (skip_law o n S l has) ∙ sym p.2)
skip_read_law o n c S l has bits u v r (Value s (inr (room, inr (inl p))) e) (inr (_, inr q)) = absurd (omega (arith, q.0, skip_finds o n S l has))

-- ---- a read of bytes and a read of bits
-- what is reserved is returned without memory, or memory is not found
unreserved : {A V : Type 0} (moves : A → ℕ → Result V DekuError → Standing A → Type 0) (n : ℕ) (b : Bool) (s : Standing A) (r : Result V DekuError) (u : Standing A)
    → UnlessStopped Unknown (CountsBits n (Reserving moves)) b s r u → UnlessStopped Unknown (CountsBits n moves) b s r u ⊎ ((r ≡ Err (Io OutOfMemory)) × (u ≡ s))
unreserved moves n false (Going a c) r u (inl p) = inl (inl p)
unreserved moves n false (Going a c) r u (inr (room, inl p)) = inr p
unreserved moves n false (Going a c) r u (inr (room, inr p)) = inl (inr (room, p))
unreserved moves n true (Going a c) r u p = inl p
unreserved moves n false (Stopped a e c) r u p = inl p
unreserved moves n true (Stopped a e c) r u p = absurd p

-- as many bits are taken as were asked for
pub taken_length : (o : Order) (n : ℕ) (b : Bool) (s : Standing (Option Stream)) (bits : List Bool) (u : Standing (Option Stream)) → TakesBits o n b s (Ok bits) u → length bits ≡ n
taken_length o n false (Going a c) bits u (inl p) = let h = p.1.2 in absurd (cc)
taken_length o n false (Going (Some S) c) bits u (inr (room, inl p)) = ap length (ok_is bits (taken o n S) p.1) ∙ length-taken o n S p.0
taken_length o n false (Going (Some S) c) bits u (inr (room, inr p)) = let h = p.1.0 in absurd (cc)
taken_length o n false (Going None c) bits u (inr (room, inl (x, after, len, is, left))) = ap length (ok_is bits x is) ∙ len
taken_length o n false (Going None c) bits u (inr (room, inr p)) = let h = p.0 in absurd (cc)
taken_length o n true (Going a c) bits u p = let h = p.1 in absurd (cc)
taken_length o n false (Stopped S e c) bits u p = let h = p.0 in absurd (cc)
taken_length o n true (Stopped S e c) bits u p = absurd p

-- bytes that are returned are those of the bits that are shown
bytes_from : (o : Order) (n : ℕ) (b : Bool) (s u : Standing (Option Stream)) (bytes : List ℕ) → ReadsBytes o n b s (Ok bytes) u
    → (length bytes ≡ n) × ReadsVec o (8 * n) b s (Ok (bits_in bytes)) u
bytes_from o n b s u bytes (Refusal e p q) = absurd (cc)
bytes_from o n b s u bytes (Value x (Refusal e p q) r) = absurd (cc)
bytes_from o n b s u bytes (Value x (Value v p q) r) =
    let wide : length (shown o v) ≡ 8 * n = length-shown o v ∙ taken_length o (8 * n) b s v u p in
    let same : bytes ≡ bytes_of (shown o v) = ok_is bytes (bytes_of x) r ∙ ap bytes_of (ok_is x (shown o v) q) in (
      ap length same ∙ length-bytes_of (shown o v) ∙ omega (arith, wide),
      Value v (memory_found (Transfers o (8 * n)) (8 * n) b s (Ok v) u p) (ap Ok (ap bits_in same ∙ bits_in-bytes_of (shown o v) (omega (arith, wide)))),
    )

bits_of : (o : Order) (n : ℕ) (b : Bool) (s u : Standing (Option Stream)) (bits : List Bool) → ReadsVec o (8 * n) b s (Ok bits) u → ReadsBytes o n b s (Ok (bytes_of bits)) u
bits_of o n b s u bits (Refusal e p q) = absurd (cc)
bits_of o n b s u bits (Value v p q) = ⊎_elim
    (λ (t : TakesBits o (8 * n) b s (Ok v) u). Value bits (Value v t q) refl)
    (λ (m : (◌≡◌ {A = Result (List Bool) DekuError} (Ok v) (Err (Io OutOfMemory))) × (u ≡ s)). let h = m.0 in absurd (cc))
    (unreserved (Transfers o (8 * n)) (8 * n) b s (Ok v) u p)

bytes_refused : (o : Order) (n : ℕ) (b : Bool) (s u : Standing (Option Stream)) (e : DekuError) → ReadsBytes o n b s (Err e) u → ReadsVec o (8 * n) b s (Err e) u
bytes_refused o n b s u e (Value x p q) = absurd (cc)
bytes_refused o n b s u e (Refusal x (Value v p q) r) = absurd (cc)
bytes_refused o n b s u e (Refusal x (Refusal y p q) r) = Refusal y (memory_found (Transfers o (8 * n)) (8 * n) b s (Err y) u p) (cc)

bits_refused : (o : Order) (n : ℕ) (b : Bool) (s u : Standing (Option Stream)) (e : DekuError) → ReadsVec o (8 * n) b s (Err e) u
    → ReadsBytes o n b s (Err e) u ⊎ ((e ≡ Io OutOfMemory) × (u ≡ s))
bits_refused o n b s u e (Value v p q) = absurd (cc)
bits_refused o n b s u e (Refusal x p q) = ⊎_elim
    (λ (t : TakesBits o (8 * n) b s (Err x) u). inl (Refusal x (Refusal x t refl) (cc)))
    (λ (m : (◌≡◌ {A = Result (List Bool) DekuError} (Err x) (Err (Io OutOfMemory))) × (u ≡ s)). let h = m.0 in inr (cc, m.1))
    (unreserved (Transfers o (8 * n)) (8 * n) b s (Err x) u p)

pub bytes_law : BytesLaw
bytes_law o n b s u = (bits_of o n b s u, bytes_from o n b s u, bytes_refused o n b s u, bits_refused o n b s u)
