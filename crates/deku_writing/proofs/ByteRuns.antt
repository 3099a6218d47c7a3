-- Whole bytes that are written as one number, the first of them the highest.
use Rattle.std.proofs.Common.{◌≡◌, ℕ, ◌*◌, ◌-◌, ◌/◌, ◌^◌, ◌<◌, ◌≤◌, false, List, [], ◌∷◌, length, take, All, Ok, pos, sym, ap, ◌∙◌, subst, arith, append-nil, length-take-le}
use Rattle.std.specs.Int.{w64, from_be_bytes}
use Rattle.std.proofs.lemmas.List.Elements.{All-head, All-tail, All-take}
use Rattle.deku_bits.specs.declared.ctx.Order.TheVariants.{Msb0}
use Rattle.deku_bits.specs.Bits.{bits_of, byte_bits, shown}
use Rattle.deku_bits.specs.Devices.{KnownSink}
use Rattle.deku_bits.specs.Streams.{flow}
use Rattle.deku_bits.specs.Standings.{Standing, Output, writer_state}
use Rattle.deku_bits.specs.Outcomes.{Quiet}
use Rattle.deku_bits.specs.Writers.{Pending, Meets}
use Rattle.deku_bits.specs.WriterCalls.{WritesAt, WritesBits, pending_of}
use Rattle.deku_bits.proofs.Bytes.{IsByte}
use Rattle.deku_bits.proofs.Cuts.{length-byte_bits}
use Rattle.deku_bits.proofs.EightBytes.{high_front}
use Rattle.deku_bits.proofs.Handing.{meant}
use Rattle.deku_num.specs.declared.ctx.Layout.{Layout}
use Rattle.deku_num.specs.declared.ctx.Size.TheVariants.{Whole}
use Rattle.deku_num.specs.Numbers.{byte}
use Rattle.deku_num.specs.NumberCalls.{WritesNumber, Passed}
use Rattle.deku_meanings.specs.Composing.{Answered, Second}
use Rattle.deku_meanings.proofs.Bytes.{byte_allowed, byte_field}
use Rattle.deku_writing.specs.Composing.{WritesEach}
use Rattle.deku_writing.specs.Words.{Follows}
use Rattle.deku_writing.proofs.WritingTwo.{follows, written_two}

module _ (l : Layout) (high : l.order ≡ Msb0) (whole : l.size ≡ Whole) where
  byte_written : (b : ℕ) (s u : Standing Output) → b < 256 → WritesBits Msb0 (byte_bits b) false s (Ok tt) u → WritesNumber byte l (pos b) false s (Ok tt) u
  unfolding shown
  byte_written b s u small p = Passed (Passed (byte_allowed l high whole, (byte_bits b, byte_field l high whole b small, rw high p)))

  bytes_each : (b : ℕ) (bs : List ℕ) (s u : Standing Output) → All IsByte (b ∷ bs) → Follows Msb0 s → WritesBits Msb0 (flow Msb0 (b ∷ bs)) false s (Ok tt) u
      → WritesEach (λ x. WritesNumber byte l (pos x)) (b ∷ bs) false s (Ok tt) u
  unfolding shown
  bytes_each b [] s u all h p = Second tt u (byte_written b s u (All-head IsByte b [] all) (subst (λ x. WritesBits Msb0 x false s (Ok tt) u) (append-nil (byte_bits b)) p)) Answered
  bytes_each b (c ∷ bs) s u all h p =
      let some : 0 < length (byte_bits b) = omega (arith, length-byte_bits b) in
      let two = written_two Msb0 (byte_bits b) (flow Msb0 (c ∷ bs)) s u some h p in
      Second tt two.0 (byte_written b s two.0 (All-head IsByte b (c ∷ bs) all) two.1) (bytes_each c bs two.0 u (All-tail IsByte b (c ∷ bs) all) two.3 two.2)

  bytes_some : (bs : List ℕ) (s u : Standing Output) → 0 < length bs → All IsByte bs → Follows Msb0 s → WritesBits Msb0 (flow Msb0 bs) false s (Ok tt) u → WritesEach (λ x. WritesNumber byte l (pos x)) bs false s (Ok tt) u
  bytes_some [] s u some all h p = absurd (omega (arith, some))
  bytes_some (b ∷ bs) s u some all h p = bytes_each b bs s u all h p

  -- the first of eight bytes, as a number
  pub bytes_written : (k n : ℕ) (eight bytes : List ℕ) (known after : KnownSink) (s u : Standing Pending) → 0 < k → k ≤ 8 → length eight ≡ 8 → All IsByte eight → take k eight ≡ take k bytes
      → n ≡ from_be_bytes w64 eight / 2 ^ (64 - 8 * k) → Meets Msb0 (pending_of s) → WritesAt (WritesBits Msb0 (shown Msb0 (bits_of (8 * k) n))) known s (Ok tt) after u
      → WritesAt (WritesEach (λ x. WritesNumber byte l (pos x)) (take k bytes)) known s (Ok tt) after u
  unfolding shown
  bytes_written k n eight bytes known after s u some few wide all same is h writes =
      let m = meant writes in
      let long : length (take k eight) ≡ k = length-take-le k eight (rw wide few) in
      let bits : bits_of (8 * k) n ≡ flow Msb0 (take k eight) = ap (bits_of (8 * k)) is ∙ sym (high_front k eight few wide all) in
      let p : WritesBits Msb0 (flow Msb0 (take k eight)) false (writer_state known s) (Ok tt) (writer_state after u) = subst (λ x. WritesBits Msb0 x false (writer_state known s) (Ok tt) (writer_state after u)) bits m.0 in
      let each = bytes_some (take k eight) (writer_state known s) (writer_state after u) (rw long some) (All-take IsByte k eight all) (follows Msb0 known s h) p in
      Quiet (subst (λ x. WritesEach (λ y. WritesNumber byte l (pos y)) x false (writer_state known s) (Ok tt) (writer_state after u)) same each) m.1
