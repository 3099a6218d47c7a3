-- Worked examples of numbers that are read and written, as theorems that compute.
use Rattle.std.specs.Prelude.{ℕ, ◌+◌, ◌*◌, ◌-◌, ◌^◌, ◌≡◌, List, [], ◌∷◌, ℤ, pos, neg_ℤ, ⊤}
use Rattle.deku_bits.specs.declared.ctx.Order.TheVariants.{Msb0, Lsb0}
use Rattle.deku_bits.specs.Bits.{bits_of}
use Rattle.deku_bits.specs.Streams.{Stream, fresh, Has, taken, left, skipped}
use Rattle.deku_bits.specs.Pieces.{Piece, piece, laid_out}
use Rattle.deku_bits.specs.Symmetry.{packed}
use Rattle.deku_bits.specs.Rows.{stream, peeked}
use Rattle.deku_num.specs.declared.ctx.Endian.TheVariants.{Little, Big}
use Rattle.deku_num.specs.declared.ctx.Size.{Size}
use Rattle.deku_num.specs.declared.ctx.Size.TheVariants.{Whole, Bits, Bytes}
use Rattle.deku_num.specs.declared.ctx.Layout.{Layout}
use Rattle.deku_num.specs.Numbers.{NumberType, byte, unsigned, signed, width, IsAllowed, number, value, Fits}
use Rattle.deku_num.specs.NumberLaws.{residue}

-- The high bit first.
abbrev pub big_msb : Size → Layout
big_msb s = record { endian = Big; order = Msb0; size = s }

-- The high byte first, and in each byte the low bit first.
abbrev pub big_lsb : Size → Layout
big_lsb s = record { endian = Big; order = Lsb0; size = s }

-- The low byte first, and in each byte the high bit first.
abbrev pub little_msb : Size → Layout
little_msb s = record { endian = Little; order = Msb0; size = s }

-- The low bit first.
abbrev pub little_lsb : Size → Layout
little_lsb s = record { endian = Little; order = Lsb0; size = s }

-- Numbers in a row: their types and layouts.
abbrev pub Places : Type 0
Places = List (NumberType × Layout)

-- None of them is rejected.
abbrev pub AreAllowed : Places → Type 0
AreAllowed [] = ⊤
AreAllowed (f ∷ fs) = IsAllowed f.0 f.1 × AreAllowed fs

-- How many bits they take together.
abbrev pub widths : Places → ℕ
widths [] = 0
widths (f ∷ fs) = width f.0 f.1 + widths fs

-- The values of the lists that are taken, one after the other.
abbrev pub values_read : Places → Stream → List ℤ
values_read [] S = []
values_read (f ∷ fs) S = value f.0 f.1 (taken f.1.order (width f.0 f.1) S) ∷ values_read fs (left f.1.order (width f.0 f.1) S)

-- The same with a peek before each number.
abbrev pub values_peeked : Places → Stream → List ℤ
values_peeked [] S = []
values_peeked (f ∷ fs) S = value f.0 f.1 (taken f.1.order (width f.0 f.1) (peeked S)) ∷ values_peeked fs (left f.1.order (width f.0 f.1) (peeked S))

-- The stream that is left.
abbrev pub stream_left : Places → Stream → Stream
stream_left [] S = S
stream_left (f ∷ fs) S = stream_left fs (left f.1.order (width f.0 f.1) S)

-- The pieces that are taken.
abbrev pub pieces_taken : Places → Stream → List Piece
pieces_taken [] S = []
pieces_taken (f ∷ fs) S = piece f.1.order (taken f.1.order (width f.0 f.1) S) ∷ pieces_taken fs (left f.1.order (width f.0 f.1) S)

-- From a stream these values are read, and another stream is left.
pub record ReadAs (places : Places) (S : Stream) (values : List ℤ) (T : Stream) : Type 0 where
  pub allowed : AreAllowed places
  pub there : Has (widths places) S
  pub read : values_read places S ≡ values
  pub leaves : stream_left places S ≡ T

-- From the bytes these values are read. What is taken, written one after the other and padded once,
-- gives the bytes again, and they are its layout.
pub record BothWays (places : Places) (bytes : List ℕ) (values : List ℤ) : Type 0 where
  pub allowed : AreAllowed places
  pub there : Has (widths places) (fresh bytes)
  pub read : values_read places (fresh bytes) ≡ values
  pub written : packed (pieces_taken places (fresh bytes)) ≡ bytes
  pub laid : laid_out (pieces_taken places (fresh bytes)) ≡ bytes

-- Two halves of a byte and two bytes.
abbrev pub halves_and_word : Places
halves_and_word = (byte, big_msb (Bits 4)) ∷ (byte, big_msb (Bits 4)) ∷ (unsigned 16, big_msb Whole) ∷ []

-- Four and twelve bits, two bytes, and twice four bytes, low bits and low bytes first.
abbrev pub header : Places
header = (byte, little_lsb (Bits 4)) ∷ (unsigned 16, little_lsb (Bits 12)) ∷ (byte, little_lsb Whole) ∷ (byte, little_lsb Whole)
    ∷ (unsigned 32, little_lsb Whole) ∷ (unsigned 32, little_lsb Whole) ∷ []

-- Thirteen and three bits in `Lsb0`, a byte in `Msb0`, three single bits, and five.
abbrev pub nested : Places
nested = (unsigned 16, big_lsb (Bits 13)) ∷ (byte, big_lsb (Bits 3)) ∷ (byte, big_msb Whole)
    ∷ (byte, big_msb (Bits 1)) ∷ (byte, big_msb (Bits 1)) ∷ (byte, big_msb (Bits 1)) ∷ (byte, big_msb (Bits 5)) ∷ []

-- Two bytes between five bits and three.
abbrev pub word_inside : Places
word_inside = (byte, little_lsb (Bits 5)) ∷ (unsigned 16, little_lsb Whole) ∷ (byte, little_lsb (Bits 3)) ∷ []

-- Three bits in `Msb0`, then nine in `Lsb0`: the order changes inside a byte.
abbrev pub turned_inside : Places
turned_inside = (byte, big_msb (Bits 3)) ∷ (unsigned 16, little_lsb (Bits 9)) ∷ []

-- Two halves of a byte, as before each frame.
abbrev pub tagged : Places → Places
tagged places = (byte, big_msb (Bits 4)) ∷ (byte, big_msb (Bits 4)) ∷ places

-- Records of several numbers, both ways.
pub record RecordRows : Type 0 where
  -- Two halves of a byte and two bytes.
  pub halves_then_word : BothWays halves_and_word (0x69 ∷ 0xBE ∷ 0xEF ∷ []) (pos 6 ∷ pos 9 ∷ pos 0xBEEF ∷ [])
  -- The same with two other bytes.
  pub halves_then_other : BothWays halves_and_word (0x69 ∷ 0xC0 ∷ 0xFE ∷ []) (pos 6 ∷ pos 9 ∷ pos 0xC0FE ∷ [])
  -- A header whose fields begin with the low bits.
  pub low_first : BothWays header
      (0x31 ∷ 0x12 ∷ 0x04 ∷ 0x05 ∷ 0x06 ∷ 0x00 ∷ 0x00 ∷ 0x00 ∷ 0x07 ∷ 0x00 ∷ 0x00 ∷ 0x00 ∷ [])
      (pos 1 ∷ pos 0x123 ∷ pos 4 ∷ pos 5 ∷ pos 6 ∷ pos 7 ∷ [])
  -- An order that changes after two bytes.
  pub two_orders : BothWays nested (0x10 ∷ 0x81 ∷ 0xAB ∷ 0x96 ∷ []) (pos 0x1001 ∷ pos 4 ∷ pos 0xAB ∷ pos 1 ∷ pos 0 ∷ pos 0 ∷ pos 22 ∷ [])
  -- The same with a peek before each field.
  pub two_orders_peeked : values_peeked nested (fresh (0x10 ∷ 0x81 ∷ 0xAB ∷ 0x96 ∷ [])) ≡ pos 0x1001 ∷ pos 4 ∷ pos 0xAB ∷ pos 1 ∷ pos 0 ∷ pos 0 ∷ pos 22 ∷ []
  -- The number of its bits.
  pub two_orders_width : widths nested ≡ 32
  -- Two bytes that begin inside a byte.
  pub word_across : BothWays word_inside (0xA1 ∷ 0x34 ∷ 0x12 ∷ []) (pos 1 ∷ pos 0x91A5 ∷ pos 0 ∷ [])
  -- Sixteen bytes that begin inside a byte.
  pub wide_across : BothWays ((byte, little_lsb (Bits 3)) ∷ (unsigned 128, little_lsb Whole) ∷ [])
      (0x0D ∷ 0x00 ∷ 0x00 ∷ 0x00 ∷ 0x00 ∷ 0x00 ∷ 0x00 ∷ 0x00 ∷ 0x00 ∷ 0x00 ∷ 0x00 ∷ 0x00 ∷ 0x00 ∷ 0x00 ∷ 0x00 ∷ 0x00 ∷ 0x04 ∷ [])
      (pos 5 ∷ pos 170141183460469231731687303715884105729 ∷ [])
  -- Thirteen and three bits, low byte first.
  pub thirteen_little : BothWays ((unsigned 16, little_lsb (Bits 13)) ∷ (byte, little_lsb (Bits 3)) ∷ []) (0x40 ∷ 0x40 ∷ []) (pos 0x40 ∷ pos 2 ∷ [])
  -- Thirteen and three bits, high byte first: the short last group has the weight 1.
  pub thirteen_big : BothWays ((unsigned 16, big_lsb (Bits 13)) ∷ (byte, big_lsb (Bits 3)) ∷ []) (0xFF ∷ 0xFF ∷ []) (pos 65311 ∷ pos 7 ∷ [])
  -- Two bytes for a number of four, then a byte.
  pub short_word : BothWays ((unsigned 32, little_msb (Bytes 2)) ∷ (byte, little_msb Whole) ∷ []) (0xAB ∷ 0xCD ∷ 0xFF ∷ []) (pos 0xCDAB ∷ pos 0xFF ∷ [])
  -- Two pairs of six bits each.
  pub pairs_of_six : BothWays
      ((byte, little_msb (Bits 6)) ∷ (byte, little_msb (Bits 6)) ∷ (byte, little_msb (Bits 6)) ∷ (byte, little_msb (Bits 6)) ∷ [])
      (0x04 ∷ 0xF0 ∷ 0x80 ∷ []) (pos 1 ∷ pos 15 ∷ pos 2 ∷ pos 0 ∷ [])
  -- Four items of four bits.
  pub four_halves : BothWays
      ((byte, little_msb (Bits 4)) ∷ (byte, little_msb (Bits 4)) ∷ (byte, little_msb (Bits 4)) ∷ (byte, little_msb (Bits 4)) ∷ [])
      (0xF0 ∷ 0xF0 ∷ []) (pos 15 ∷ pos 0 ∷ pos 15 ∷ pos 0 ∷ [])
  -- A byte and four bytes, low byte first.
  pub byte_and_four : BothWays ((byte, little_msb Whole) ∷ (unsigned 32, little_msb Whole) ∷ []) (0x01 ∷ 0x24 ∷ 0x98 ∷ 0x82 ∷ 0x00 ∷ []) (pos 1 ∷ pos 0x829824 ∷ [])
  -- A key and its entry.
  pub key_and_entry : BothWays ((byte, little_msb Whole) ∷ (unsigned 32, little_msb Whole) ∷ []) (0x64 ∷ 0x01 ∷ 0x02 ∷ 0x03 ∷ 0x04 ∷ []) (pos 100 ∷ pos 0x04030201 ∷ [])
  -- Two items of two bytes, low byte first.
  pub two_words : BothWays ((unsigned 16, little_msb Whole) ∷ (unsigned 16, little_msb Whole) ∷ []) (0xAA ∷ 0xBB ∷ 0xCC ∷ 0xDD ∷ []) (pos 0xBBAA ∷ pos 0xDDCC ∷ [])
  -- Three items of four bits in `Lsb0`.
  pub three_lsb : BothWays ((byte, big_lsb (Bits 4)) ∷ (unsigned 16, big_lsb (Bits 4)) ∷ (unsigned 16, big_lsb (Bits 4)) ∷ []) (0x15 ∷ 0x02 ∷ []) (pos 5 ∷ pos 1 ∷ pos 2 ∷ [])
  -- A frame with a token.
  pub token_frame : BothWays (tagged ((unsigned 16, big_msb Whole) ∷ [])) (0x11 ∷ 0xBE ∷ 0xEF ∷ []) (pos 1 ∷ pos 1 ∷ pos 0xBEEF ∷ [])
  -- A frame with a length and as many bytes.
  pub data_frame : BothWays (tagged ((byte, big_msb Whole) ∷ (byte, big_msb Whole) ∷ (byte, big_msb Whole) ∷ []))
      (0x21 ∷ 0x02 ∷ 0xAA ∷ 0xBB ∷ []) (pos 2 ∷ pos 1 ∷ pos 2 ∷ pos 0xAA ∷ pos 0xBB ∷ [])
  -- A frame with a length of zero.
  pub empty_frame : BothWays (tagged ((byte, big_msb Whole) ∷ [])) (0x21 ∷ 0x00 ∷ []) (pos 2 ∷ pos 1 ∷ pos 0 ∷ [])
  -- A frame with five and eleven bits.
  pub pair_frame : BothWays (tagged ((byte, big_msb (Bits 5)) ∷ (unsigned 16, big_msb (Bits 11)) ∷ [])) (0x31 ∷ 0x2A ∷ 0xA7 ∷ []) (pos 3 ∷ pos 1 ∷ pos 5 ∷ pos 0x2A7 ∷ [])

-- Single numbers, both ways.
pub record NumberRows : Type 0 where
  -- Three bits.
  pub three_bits : BothWays ((byte, big_msb (Bits 3)) ∷ []) (0xA0 ∷ []) (pos 5 ∷ [])
  -- Three signed bits.
  pub three_signed : BothWays ((signed 8, little_msb (Bits 3)) ∷ []) (0xA0 ∷ []) (neg_ℤ (pos 3) ∷ [])
  -- Ten bits, the low group first.
  pub ten_bits : BothWays ((unsigned 16, little_msb (Bits 10)) ∷ []) (0xAB ∷ 0xC0 ∷ []) (pos 0x3AB ∷ [])
  -- Twelve signed bits, the low group first.
  pub twelve_signed : BothWays ((signed 16, little_msb (Bits 12)) ∷ []) (0xFE ∷ 0xF0 ∷ []) (neg_ℤ (pos 2) ∷ [])
  -- Thirteen bits in `Lsb0`, the high group first.
  pub thirteen_bits : BothWays ((unsigned 16, big_lsb (Bits 13)) ∷ []) (0x10 ∷ 0x01 ∷ []) (pos 0x1001 ∷ [])
  -- The greatest such number.
  pub thirteen_greatest : BothWays ((unsigned 16, big_lsb (Bits 13)) ∷ []) (0xFF ∷ 0x1F ∷ []) (pos 0xFF1F ∷ [])
  -- No bits.
  pub no_bits : BothWays ((byte, little_msb (Bits 0)) ∷ []) [] (pos 0 ∷ [])
  -- No bytes.
  pub no_bytes : BothWays ((unsigned 16, little_msb (Bytes 0)) ∷ []) [] (pos 0 ∷ [])
  -- A byte has eight bits whatever its byte size.
  pub byte_of_nine : BothWays ((byte, little_msb (Bytes 9)) ∷ []) (0xAB ∷ []) (pos 0xAB ∷ [])
  -- Two bytes, the low byte first.
  pub little_word : BothWays ((unsigned 16, little_msb Whole) ∷ []) (0xEF ∷ 0xBE ∷ []) (pos 0xBEEF ∷ [])
  -- The address 145.254.160.237, low byte first.
  pub address : BothWays ((unsigned 32, little_msb Whole) ∷ []) (0xED ∷ 0xA0 ∷ 0xFE ∷ 0x91 ∷ []) (pos (((145 * 256 + 254) * 256 + 160) * 256 + 237) ∷ [])
  -- The address 0.0.1.2 in two bytes.
  pub short_address : BothWays ((unsigned 32, big_msb (Bytes 2)) ∷ []) (0x01 ∷ 0x02 ∷ []) (pos (1 * 256 + 2) ∷ [])
  -- Two signed bytes.
  pub minus_two : BothWays ((signed 32, big_msb (Bytes 2)) ∷ []) (0xFF ∷ 0xFE ∷ []) (neg_ℤ (pos 2) ∷ [])
  -- The least number of two signed bytes.
  pub least : BothWays ((signed 32, big_msb (Bytes 2)) ∷ []) (0x80 ∷ 0x00 ∷ []) (neg_ℤ (pos 32768) ∷ [])
  -- Two bytes of a number of four: 0x01020304 modulo two to the power of their bits.
  pub two_lowest : BothWays ((unsigned 32, big_msb (Bytes 2)) ∷ []) (0x03 ∷ 0x04 ∷ []) (pos (residue (pos 0x01020304) 16) ∷ [])
  -- One signed byte with the lowest bits of 300.
  pub byte_of_300 : value (signed 16) (little_msb (Bytes 1)) (bits_of 8 (residue (pos 300) 8)) ≡ pos 44
  -- One signed byte with the lowest bits of 200.
  pub byte_of_200 : value (signed 16) (little_msb (Bytes 1)) (bits_of 8 (residue (pos 200) 8)) ≡ neg_ℤ (pos 56)

-- Numbers that are read and leave unread bits, and an order that changes inside a byte.
pub record PartRows : Type 0 where
  -- Four bits and two, of three bytes.
  pub six_bits : ReadAs ((byte, big_msb (Bits 4)) ∷ (byte, big_msb (Bits 2)) ∷ []) (fresh (0x6D ∷ 0xBE ∷ 0xEF ∷ []))
      (pos 6 ∷ pos 3 ∷ []) (stream (bits_of 2 0b01) (0xBE ∷ 0xEF ∷ []))
  -- Thirteen bits in `Lsb0`, the high group first, of two bytes.
  pub thirteen_bits : ReadAs ((unsigned 32, big_lsb (Bits 13)) ∷ []) (fresh (0x10 ∷ 0x81 ∷ [])) (pos 0x1001 ∷ []) (stream (bits_of 3 0b100) [])
  -- Twice six bits, of two bytes.
  pub two_sixes : ReadAs ((byte, little_msb (Bits 6)) ∷ (byte, little_msb (Bits 6)) ∷ []) (fresh (0x69 ∷ 0xE9 ∷ []))
      (pos 0x1A ∷ pos 0x1E ∷ []) (stream (bits_of 4 0b1001) [])
  -- Twelve bits of four bytes, the low group first.
  pub twelve_little : ReadAs ((unsigned 32, little_msb (Bits 12)) ∷ []) (fresh (0x96 ∷ 0xE0 ∷ 0xCC ∷ 0xDD ∷ []))
      (pos 0xE96 ∷ []) (stream (bits_of 4 0b0000) (0xCC ∷ 0xDD ∷ []))
  -- Twelve bits of four bytes, the high bit first.
  pub twelve_big : ReadAs ((unsigned 32, big_msb (Bits 12)) ∷ []) (fresh (0x96 ∷ 0xE0 ∷ 0xCC ∷ 0xDD ∷ []))
      (pos 0x96E ∷ []) (stream (bits_of 4 0b0000) (0xCC ∷ 0xDD ∷ []))
  -- Two bytes of four.
  pub first_word : ReadAs ((unsigned 16, big_msb Whole) ∷ []) (fresh (0xAA ∷ 0xBB ∷ 0xCC ∷ 0xDD ∷ [])) (pos 0xAABB ∷ []) (fresh (0xCC ∷ 0xDD ∷ []))
  -- A byte after a skip of four bits.
  pub byte_behind_skip : ReadAs ((byte, little_msb Whole) ∷ []) (skipped Msb0 4 (fresh (0x12 ∷ 0x34 ∷ []))) (pos 0x23 ∷ []) (stream (bits_of 4 0x4) [])
  -- A frame with a length of zero, and a byte after it.
  pub frame_then_byte : ReadAs (tagged ((byte, big_msb Whole) ∷ [])) (fresh (0x21 ∷ 0x00 ∷ 0x99 ∷ [])) (pos 2 ∷ pos 1 ∷ pos 0 ∷ []) (fresh (0x99 ∷ []))
  -- Three times two bits, the low bits first.
  pub two_bits_thrice : values_read ((byte, little_lsb (Bits 2)) ∷ (byte, little_lsb (Bits 2)) ∷ (byte, little_lsb (Bits 2)) ∷ []) (fresh (0x0D ∷ []))
      ≡ pos 1 ∷ pos 3 ∷ pos 0 ∷ []
  -- The two highest bits.
  pub two_bits : values_read ((byte, little_msb (Bits 2)) ∷ []) (fresh (0x40 ∷ [])) ≡ pos 1 ∷ []
  -- Three items of four bits in `Lsb0`, whatever bits follow them.
  pub three_lsb : values_read ((byte, big_lsb (Bits 4)) ∷ (unsigned 16, big_lsb (Bits 4)) ∷ (unsigned 16, big_lsb (Bits 4)) ∷ []) (fresh (0x15 ∷ 0xF2 ∷ []))
      ≡ pos 5 ∷ pos 1 ∷ pos 2 ∷ []
  -- Three bits in `Msb0` and nine in `Lsb0`, written.
  pub turned_written : packed (piece Msb0 (bits_of 3 5) ∷ piece Lsb0 (bits_of 9 0b100000001) ∷ []) ≡ 0xB0 ∷ 0x01 ∷ []
  -- The value of the three.
  pub turned_first : value byte (big_msb (Bits 3)) (bits_of 3 5) ≡ pos 5
  -- The value of the nine.
  pub turned_second : value (unsigned 16) (little_lsb (Bits 9)) (bits_of 9 0b100000001) ≡ pos 257
  -- Read again, they are not what was written.
  pub turned_read : values_read turned_inside (fresh (0xB0 ∷ 0x01 ∷ [])) ≡ pos 5 ∷ pos 48 ∷ []
  -- The number of their bits.
  pub turned_width : widths turned_inside ≡ 12
  -- The lowest sixteen bits of a number are the number modulo two to the power of sixteen.
  pub lowest_number : number Big Msb0 (bits_of 16 0x01020304) ≡ residue (pos 0x01020304) 16
  -- How they are written.
  pub lowest_written : packed (piece Msb0 (bits_of 16 0x01020304) ∷ []) ≡ 0x03 ∷ 0x04 ∷ []

-- Layouts that are rejected, and values that do not fit.
pub record FitRows : Type 0 where
  -- Thirteen signed bits in `Lsb0`, the high group first.
  pub signed_thirteen : IsAllowed (signed 16) (big_lsb (Bits 13)) → ⊥
  -- Nine bits of a byte.
  pub nine_of_byte : IsAllowed byte (little_msb (Bits 9)) → ⊥
  -- The greatest byte size.
  pub all_bytes : IsAllowed (unsigned 16) (little_msb (Bytes (2 ^ 64 - 1))) → ⊥
  -- A byte may have any byte size.
  pub any_bytes : IsAllowed byte (little_msb (Bytes 9))
  -- It has eight bits then.
  pub any_bytes_width : width byte (little_msb (Bytes 9)) ≡ 8
  -- 16 in four bits.
  pub four_bits : Fits byte (big_msb (Bits 4)) (pos 16) → ⊥
  -- 300 in a byte.
  pub one_byte : Fits byte (big_msb Whole) (pos 300) → ⊥
  -- 32 in five bits.
  pub five_bits : Fits byte (big_msb (Bits 5)) (pos 32) → ⊥
  -- 2048 in eleven bits.
  pub eleven_bits : Fits (unsigned 16) (big_msb (Bits 11)) (pos 2048) → ⊥
  -- 0x400 in ten bits.
  pub ten_bits : Fits (unsigned 16) (little_msb (Bits 10)) (pos 0x400) → ⊥
  -- 0x1020 in thirteen bits: the last group has five, and 0x20 needs six.
  pub thirteen_bits : Fits (unsigned 16) (big_lsb (Bits 13)) (pos 0x1020) → ⊥
  -- 4 in three signed bits.
  pub three_signed : Fits (signed 8) (little_msb (Bits 3)) (pos 4) → ⊥
  -- A number of four bytes in two bytes.
  pub two_bytes : Fits (unsigned 32) (big_msb (Bytes 2)) (pos 0x01020304) → ⊥
  -- The address 1.0.0.0 in two bytes.
  pub long_address : Fits (unsigned 32) (big_msb (Bytes 2)) (pos 0x01000000) → ⊥
  -- 32768 in two signed bytes.
  pub two_signed : Fits (signed 32) (big_msb (Bytes 2)) (pos 32768) → ⊥
  -- 1 in no bytes.
  pub no_bytes : Fits (unsigned 16) (little_msb (Bytes 0)) (pos 1) → ⊥
  -- -1 in no signed bits.
  pub no_bits : Fits (signed 8) (little_msb (Bits 0)) (neg_ℤ (pos 1)) → ⊥
