-- Bytes and their bits.
use Rattle.std.proofs.Common.{◌≡◌, ℕ, ◌%◌, ◌<◌, Bool, List, [], ◌∷◌, ◌++◌, length, map, reverse, All, arith, refl, ap, ap₂, ◌∙◌, length-append}
use Rattle.std.proofs.lemmas.List.{reverse-reverse, length-reverse, length-map}
use Rattle.std.proofs.lemmas.List.Elements.{All-head, All-tail}
use Rattle.deku_stream.specs.declared.ctx.Order.{Order}
use Rattle.deku_stream.specs.declared.ctx.Order.TheVariants.{Msb0, Lsb0}
use Rattle.deku_stream.specs.Bits.{bin, byte_bits, bits_in, bytes_of, groups, shown}
use Rattle.deku_stream.specs.Streams.{flow}
use Rattle.deku_stream.proofs.Cuts.{length-flow, length-byte_bits, byte-of, bits_of-group}
use Rattle.deku_stream.proofs.Groups.{chunks-full, by_groups, length-chunks}
use Rattle.deku_stream.proofs.Shown.{turned, turned-full, shown_high, shown_even}

abbrev pub IsByte : ℕ → Type 0
IsByte b = b < 256

-- ---- bytes and their bits
-- bytes that an order meets are shown high bit first
pub shown-flow : (o : Order) (bs : List ℕ) → shown o (flow o bs) ≡ bits_in bs
shown-flow Msb0 bs = shown_high (flow Msb0 bs)
shown-flow Lsb0 bs = shown_even (flow Lsb0 bs) (omega (arith, length-flow Lsb0 bs)) ∙ go bs
  where
    go : (bs : List ℕ) → turned (flow Lsb0 bs) ≡ bits_in bs
    go [] = refl
    go (b ∷ bs) =
        turned-full (reverse (byte_bits b)) (flow Lsb0 bs) (length-reverse (byte_bits b) ∙ length-byte_bits b)
        ∙ ap₂ (λ x y. x ++ y) (reverse-reverse (byte_bits b)) (go bs)

bytes_of-full : (g t : List Bool) → length g ≡ 8 → bytes_of (g ++ t) ≡ bin g ∷ bytes_of t
bytes_of-full g t l = ap (map bin) (chunks-full g t l)

pub bytes_of-bits_in : (bs : List ℕ) → All IsByte bs → bytes_of (bits_in bs) ≡ bs
bytes_of-bits_in [] h = refl
bytes_of-bits_in (b ∷ bs) h =
    bytes_of-full (byte_bits b) (bits_in bs) (length-byte_bits b)
    ∙ ap₂ (λ x y. x ∷ y) (byte-of Msb0 b (All-head IsByte b bs h)) (bytes_of-bits_in bs (All-tail IsByte b bs h))

pub bits_in-bytes_of : (s : List Bool) → length s % 8 ≡ 0 → bits_in (bytes_of s) ≡ s
bits_in-bytes_of s = by_groups (λ s. length s % 8 ≡ 0 → bits_in (bytes_of s) ≡ s) (λ z. refl)
    (λ s p l z. absurd (omega arith))
    (λ g t l h z. ap bits_in (bytes_of-full g t l) ∙ ap₂ (λ x y. x ++ y) (bits_of-group Msb0 g l) (h (omega (arith, z, l, length-append g t))))
    s

pub length-bytes_of : (s : List Bool) → length (bytes_of s) ≡ groups (length s)
length-bytes_of s = simp length-map (length-chunks s)
