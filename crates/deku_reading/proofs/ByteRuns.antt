-- Whole bytes that are read as one number, the first of them the highest.
use Rattle.std.proofs.Common.{◌≡◌, ℕ, ◌+◌, ◌*◌, ◌-◌, ◌/◌, ◌^◌, ◌<◌, ◌≤◌, Bool, false, List, [], ◌∷◌, ◌++◌, length, take, All, Option, Ok, refl, sym, ap, ◌∙◌, subst, arith, append-nil, length-take-le, mod-eq_of_lt, ◌%◌}
use Rattle.std.specs.Int.{w64, to_be_bytes, from_be_bytes}
use Rattle.std.proofs.lemmas.Nat.{from_be_bytes-to_be_bytes_8, shl-shr, shl_below}
use Rattle.std.proofs.lemmas.List.Elements.{All-head, All-tail, All-take}
use Rattle.deku_bits.specs.declared.ctx.Order.TheVariants.{Msb0}
use Rattle.deku_bits.specs.Bits.{bits_of, byte_bits}
use Rattle.deku_bits.specs.Devices.{KnownSource}
use Rattle.deku_bits.specs.Standings.{Standing, reader_state}
use Rattle.deku_bits.specs.Streams.{Stream, flow}
use Rattle.deku_bits.specs.Outcomes.{Value}
use Rattle.deku_bits.specs.ReaderCalls.{ReadsAt, TakesBits, window_of}
use Rattle.deku_bits.proofs.Bytes.{IsByte}
use Rattle.deku_bits.proofs.Cuts.{length-byte_bits}
use Rattle.deku_bits.proofs.EightBytes.{high_front, high_first_bytes}
use Rattle.deku_bits.proofs.Handing.{meant}
use Rattle.deku_num.specs.declared.ctx.Size.TheVariants.{Whole}
use Rattle.deku_num.specs.declared.ctx.Layout.{Layout}
use Rattle.deku_num.specs.Numbers.{byte}
use Rattle.deku_num.specs.NumberCalls.{ReadsUnsigned, Passed}
use Rattle.deku_meanings.proofs.Bytes.{byte_wide, byte_allowed, byte_field}
use Rattle.deku_reading.specs.Ahead.{Appended}
use Rattle.deku_reading.specs.Cutting.{IsCut}
use Rattle.deku_reading.specs.Lists.{AnswersEach}
use Rattle.deku_reading.proofs.Cutting.{short_at, taken_two}

-- ---- one byte
module _ (l : Layout) (high : l.order ≡ Msb0) (whole : l.size ≡ Whole) where
  byte_read : (b : ℕ) (s u : Standing (Option Stream)) → b < 256 → TakesBits Msb0 8 false s (Ok (byte_bits b)) u → ReadsUnsigned byte l false s (Ok b) u
  byte_read b s u small p =
      let eight = byte_wide l high whole in
      let field = byte_field l high whole b small in
      Passed (byte_allowed l high whole, Value (byte_bits b) (rw (high, eight) p) (ap (λ x. Ok x) (sym field.worth)))

  -- ---- bytes in turn
  bytes_each : (b : ℕ) (bs : List ℕ) (s u : Standing (Option Stream)) → All IsByte (b ∷ bs) → IsCut s → TakesBits Msb0 (8 * length (b ∷ bs)) false s (Ok (flow Msb0 (b ∷ bs))) u
      → AnswersEach (ReadsUnsigned byte l) (b ∷ bs) s u
  bytes_each b [] s u all short p = (u, byte_read b s u (All-head IsByte b [] all) (subst (λ x. TakesBits Msb0 8 false s (Ok x) u) (append-nil (byte_bits b)) p), refl)
  bytes_each b (c ∷ bs) s u all short p =
      let count : 8 * length (b ∷ c ∷ bs) ≡ 8 + 8 * length (c ∷ bs) = omega arith in
      let two = taken_two Msb0 8 (8 * length (c ∷ bs)) (byte_bits b) (flow Msb0 (c ∷ bs)) s u short (length-byte_bits b) (subst (λ n. TakesBits Msb0 n false s (Ok (flow Msb0 (b ∷ c ∷ bs))) u) count p) in
      (two.0, byte_read b s two.0 (All-head IsByte b (c ∷ bs) all) two.1, bytes_each c bs two.0 u (All-tail IsByte b (c ∷ bs) all) two.3 two.2)

  bytes_some : (bs : List ℕ) (s u : Standing (Option Stream)) → 0 < length bs → All IsByte bs → IsCut s → TakesBits Msb0 (8 * length bs) false s (Ok (flow Msb0 bs)) u → AnswersEach (ReadsUnsigned byte l) bs s u
  bytes_some [] s u some all short p = absurd (omega (arith, some))
  bytes_some (b ∷ bs) s u some all short p = bytes_each b bs s u all short p

  -- the first of the eight bytes of a number
  pub bytes_appended : (k n : ℕ) (xs ys eight : List ℕ) (known after : KnownSource) (s u : Standing (List Bool)) → 0 < k → k ≤ 8 → n < 2 ^ (8 * k) → length (window_of s) ≤ 8
      → eight ≡ to_be_bytes w64 (n * 2 ^ (64 - 8 * k) % 2 ^ 64) → ys ≡ xs ++ take k eight
      → ReadsAt (TakesBits Msb0 (8 * k)) known s (Ok (bits_of (8 * k) n)) after u → Appended (ReadsUnsigned byte l) k xs ys known s after u
  bytes_appended k n xs ys eight known after s u some few small held are joined reads =
      let m = meant reads in
      let x : ℕ = n * 2 ^ (64 - 8 * k) in
      let wide : 8 * k + (64 - 8 * k) ≡ 64 = omega (arith, few) in
      let fits : x < 2 ^ 64 = subst (λ j. x < 2 ^ j) wide (shl_below n (8 * k) (64 - 8 * k) small) in
      let is : eight ≡ to_be_bytes w64 x = are ∙ ap (to_be_bytes w64) (mod-eq_of_lt fits) in
      let all : All IsByte eight = subst (All IsByte) (sym is) (high_first_bytes 8 x) in
      let wide_eight : length eight ≡ 8 = ap length is in
      let long : length (take k eight) ≡ k = length-take-le k eight (rw wide_eight few) in
      let worth : from_be_bytes w64 eight / 2 ^ (64 - 8 * k) ≡ n = ap (λ y. from_be_bytes w64 y / 2 ^ (64 - 8 * k)) is ∙ ap (λ y. y / 2 ^ (64 - 8 * k)) (from_be_bytes-to_be_bytes_8 x fits) ∙ shl-shr n (64 - 8 * k) in
      let bits : flow Msb0 (take k eight) ≡ bits_of (8 * k) n = high_front k eight few wide_eight all ∙ ap (bits_of (8 * k)) worth in
      let p : TakesBits Msb0 (8 * length (take k eight)) false (reader_state known.remaining s) (Ok (flow Msb0 (take k eight))) (reader_state after.remaining u) = rw (long, bits) m.0 in
      record {
        items = take k eight;
        count = long;
        joined = joined;
        each = bytes_some (take k eight) (reader_state known.remaining s) (reader_state after.remaining u) (rw long some) (All-take IsByte k eight all) (short_at known.remaining s held) p;
        kept = m.1;
      }
