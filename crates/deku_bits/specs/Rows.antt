-- Worked examples of reading and writing bits, as theorems that compute.
use Rattle.std.specs.Prelude.{ℕ, ◌≡◌, Bool, true, false, List, [], ◌∷◌, ◌++◌}
use Rattle.deku_stream.specs.declared.ctx.Order.{Order}
use Rattle.deku_stream.specs.declared.ctx.Order.TheVariants.{Msb0, Lsb0}
use Rattle.deku_stream.specs.Bits.{bits_of, shown}
use Rattle.deku_stream.specs.Streams.{Stream, fresh, normal, Has, taken, left, skipped}
use Rattle.deku_stream.specs.Pieces.{Piece, piece}
use Rattle.deku_stream.specs.Writers.{Pending, Nothing, Held, Written, append, padded}
use Rattle.deku_stream.specs.Symmetry.{followed}
pub use Rattle.deku_stream.specs.Streams.{peeked}

-- A window and the bytes after it.
abbrev pub stream : List Bool → List ℕ → Stream
stream window bytes = record { window = window; bytes = bytes }

-- What reads of these numbers of bits show, one after the other.
abbrev pub answers : List (Order × ℕ) → Stream → List (List Bool)
answers [] S = []
answers (r ∷ rs) S = shown r.0 (taken r.0 r.1 S) ∷ answers rs (left r.0 r.1 S)

-- The same with a peek before each read.
abbrev pub peeked_answers : List (Order × ℕ) → Stream → List (List Bool)
peeked_answers [] S = []
peeked_answers (r ∷ rs) S = shown r.0 (taken r.0 r.1 (peeked S)) ∷ peeked_answers rs (left r.0 r.1 (peeked S))

-- The stream that reads leave.
abbrev pub remaining : List (Order × ℕ) → Stream → Stream
remaining [] S = S
remaining (r ∷ rs) S = remaining rs (left r.0 r.1 S)

-- The n lowest bits of a number, given to a write in `Msb0`.
abbrev pub msb : ℕ → ℕ → Piece
msb n v = piece Msb0 (bits_of n v)

-- The n lowest bits of a number, given to a write in `Lsb0`.
abbrev pub lsb : ℕ → ℕ → Piece
lsb n v = piece Lsb0 (bits_of n v)

-- Lists given to writes, one after the other: the bytes that are given out, and what is pending
-- then.
abbrev pub outcome : List Piece → Pending → Written
outcome [] P = record { bytes = []; pending = P }
outcome (p ∷ ps) P = followed (append p.order p.bits P) (outcome ps)

-- The bytes of lists given to writes, from nothing, and padded once.
abbrev pub written : List Piece → List ℕ
written ps = (outcome ps Nothing).bytes ++ padded (outcome ps Nothing).pending

-- Reading bits. A list shows the high bit first, and zeros before a number are bits too.
pub record ReadRows : Type 0 where
  -- How lists are written in these rows.
  pub digits : bits_of 4 0b0011 ≡ false ∷ false ∷ true ∷ true ∷ []
  -- Four bits, then two, both `Msb0`.
  pub two_msb : answers ((Msb0, 4) ∷ (Msb0, 2) ∷ []) (fresh (0x6D ∷ 0xBE ∷ 0xEF ∷ [])) ≡ bits_of 4 0b0110 ∷ bits_of 2 0b11 ∷ []
  -- What these leave: two bits of the first byte, and two bytes.
  pub two_msb_rest : remaining ((Msb0, 4) ∷ (Msb0, 2) ∷ []) (fresh (0x6D ∷ 0xBE ∷ 0xEF ∷ [])) ≡ stream (bits_of 2 0b01) (0xBE ∷ 0xEF ∷ [])
  -- One bit of `Lsb0`, then seven of `Msb0`, all of one byte.
  pub low_bit_first : answers ((Lsb0, 1) ∷ (Msb0, 3) ∷ (Msb0, 4) ∷ []) (fresh (0xAB ∷ [])) ≡ bits_of 1 0b1 ∷ bits_of 3 0b101 ∷ bits_of 4 0b0101 ∷ []
  -- A byte in `Lsb0`, the low half first, then one in `Msb0`, the high half first.
  pub low_half_first : answers ((Lsb0, 4) ∷ (Lsb0, 4) ∷ (Msb0, 4) ∷ (Msb0, 4) ∷ []) (fresh (0xAB ∷ 0xCD ∷ []))
      ≡ bits_of 4 0b1011 ∷ bits_of 4 0b1010 ∷ bits_of 4 0b1100 ∷ bits_of 4 0b1101 ∷ []
  -- Five bits, two whole bytes across three, and three bits, all `Lsb0`.
  pub across_bytes : answers ((Lsb0, 5) ∷ (Lsb0, 16) ∷ (Lsb0, 3) ∷ []) (fresh (0xA1 ∷ 0x34 ∷ 0x12 ∷ []))
      ≡ bits_of 5 0b00001 ∷ bits_of 16 0b1010010110010001 ∷ bits_of 3 0b000 ∷ []
  -- Five bits leave two bytes untouched.
  pub touched_first : (remaining ((Lsb0, 5) ∷ []) (fresh (0xA1 ∷ 0x34 ∷ 0x12 ∷ []))).bytes ≡ 0x34 ∷ 0x12 ∷ []
  -- With sixteen more bits, no byte is untouched.
  pub touched_all : (remaining ((Lsb0, 5) ∷ (Lsb0, 16) ∷ []) (fresh (0xA1 ∷ 0x34 ∷ 0x12 ∷ []))).bytes ≡ []
  -- With three more bits, no bit is left.
  pub touched_to_end : remaining ((Lsb0, 5) ∷ (Lsb0, 16) ∷ (Lsb0, 3) ∷ []) (fresh (0xA1 ∷ 0x34 ∷ 0x12 ∷ [])) ≡ fresh []
  -- Thirteen bits in `Lsb0` leave the three highest of the second byte.
  pub high_bits_left : remaining ((Lsb0, 13) ∷ []) (fresh (0x10 ∷ 0x81 ∷ [])) ≡ stream (bits_of 3 0b100) []
  -- Six bits in `Msb0`, then seventeen in `Lsb0`.
  pub then_lsb : answers ((Msb0, 6) ∷ (Lsb0, 17) ∷ []) (fresh (0x02 ∷ 0x64 ∷ 0x20 ∷ [])) ≡ bits_of 6 0b000000 ∷ bits_of 17 0b01000000110010010 ∷ []
  -- Six bits in `Msb0`, then seventeen in `Msb0`.
  pub then_msb : answers ((Msb0, 6) ∷ (Msb0, 17) ∷ []) (fresh (0x02 ∷ 0x64 ∷ 0x20 ∷ [])) ≡ bits_of 6 0b000000 ∷ bits_of 17 0b10011001000010000 ∷ []
  -- Four bits in `Msb0`, then two bytes in `Lsb0`.
  pub bytes_inside : answers ((Msb0, 4) ∷ (Lsb0, 16) ∷ []) (fresh (0xAB ∷ 0xCD ∷ 0xEF ∷ [])) ≡ bits_of 4 0xA ∷ bits_of 16 0xDBFC ∷ []
  -- What these leave.
  pub bytes_inside_rest : remaining ((Msb0, 4) ∷ (Lsb0, 16) ∷ []) (fresh (0xAB ∷ 0xCD ∷ 0xEF ∷ [])) ≡ stream (bits_of 4 0b1110) []
  -- Two halves and one bit, `Msb0`.
  pub nine_bits : answers ((Msb0, 4) ∷ (Msb0, 4) ∷ (Msb0, 1) ∷ []) (fresh (0xF1 ∷ 0x80 ∷ [])) ≡ bits_of 4 0b1111 ∷ bits_of 4 0b0001 ∷ bits_of 1 0b1 ∷ []

-- Peeks and skips.
pub record SkipRows : Type 0 where
  -- A peek makes the next byte the window.
  pub peek : peeked (fresh (0xAA ∷ 0xBB ∷ [])) ≡ stream (bits_of 8 0b10101010) (0xBB ∷ [])
  -- The stream is the same.
  pub peek_normal : normal (peeked (fresh (0xAA ∷ 0xBB ∷ []))) ≡ fresh (0xAA ∷ 0xBB ∷ [])
  -- Two bytes in `Lsb0` after a peek.
  pub peek_read : answers ((Lsb0, 16) ∷ []) (peeked (fresh (0xAA ∷ 0xBB ∷ []))) ≡ bits_of 16 0xAABB ∷ []
  -- What this leaves.
  pub peek_read_rest : remaining ((Lsb0, 16) ∷ []) (peeked (fresh (0xAA ∷ 0xBB ∷ []))) ≡ fresh []
  -- Five bits in `Lsb0` after a peek leave two bytes untouched.
  pub peek_touched : (remaining ((Lsb0, 5) ∷ []) (peeked (fresh (0xA1 ∷ 0x34 ∷ 0x12 ∷ [])))).bytes ≡ 0x34 ∷ 0x12 ∷ []
  -- Five bits, two whole bytes across three, and three bits, all `Lsb0`, with a peek before each.
  pub peek_each : peeked_answers ((Lsb0, 5) ∷ (Lsb0, 16) ∷ (Lsb0, 3) ∷ []) (fresh (0xA1 ∷ 0x34 ∷ 0x12 ∷ []))
      ≡ bits_of 5 0b00001 ∷ bits_of 16 0b1010010110010001 ∷ bits_of 3 0b000 ∷ []
  -- A peek, a byte skipped, a byte read.
  pub peek_skip : answers ((Msb0, 8) ∷ []) (skipped Msb0 8 (peeked (fresh (0xAA ∷ 0xBB ∷ 0xCC ∷ [])))) ≡ bits_of 8 0xBB ∷ []
  -- Four bits, a skip of six, and six bits, all `Msb0`.
  pub skip_msb : answers ((Msb0, 6) ∷ []) (skipped Msb0 6 (remaining ((Msb0, 4) ∷ []) (fresh (0xAB ∷ 0xCD ∷ 0xEF ∷ [])))) ≡ bits_of 6 0b001101 ∷ []
  -- Four bits in `Msb0`, a skip of six in `Lsb0`.
  pub skip_lsb : skipped Lsb0 6 (remaining ((Msb0, 4) ∷ []) (fresh (0xAB ∷ 0xCD ∷ []))) ≡ stream (bits_of 6 0b110011) []
  -- A skip of four bits, a byte read.
  pub skip_half : answers ((Msb0, 8) ∷ []) (skipped Msb0 4 (fresh (0x12 ∷ 0x34 ∷ []))) ≡ bits_of 8 0x23 ∷ []
  -- What these leave.
  pub skip_half_rest : remaining ((Msb0, 8) ∷ []) (skipped Msb0 4 (fresh (0x12 ∷ 0x34 ∷ []))) ≡ stream (bits_of 4 0x4) []

-- Reads that have too few bits, or just enough.
pub record ShortRows : Type 0 where
  -- Four bits of nothing.
  pub nothing : Has 4 (fresh []) → ⊥
  -- Two bytes after two halves, of one byte.
  pub one_byte : Has 16 (remaining ((Msb0, 4) ∷ (Msb0, 4) ∷ []) (fresh (0x69 ∷ []))) → ⊥
  -- The same of two bytes.
  pub two_bytes : Has 16 (remaining ((Msb0, 4) ∷ (Msb0, 4) ∷ []) (fresh (0x69 ∷ 0xBE ∷ []))) → ⊥
  -- The same of three bytes, which are enough.
  pub three_bytes : Has 16 (remaining ((Msb0, 4) ∷ (Msb0, 4) ∷ []) (fresh (0x69 ∷ 0xBE ∷ 0xEF ∷ [])))
  -- Thirteen bits of one byte.
  pub thirteen : Has 13 (fresh (0x10 ∷ [])) → ⊥
  -- A byte after two bytes, of two.
  pub byte_behind : Has 8 (remaining ((Lsb0, 13) ∷ (Lsb0, 3) ∷ []) (fresh (0x10 ∷ 0x81 ∷ []))) → ⊥
  -- A bit after three bytes, of three.
  pub bit_behind : Has 1 (remaining ((Lsb0, 13) ∷ (Lsb0, 3) ∷ (Msb0, 8) ∷ []) (fresh (0x10 ∷ 0x81 ∷ 0xAB ∷ []))) → ⊥
  -- A bit after two bytes that were read after a peek, of two.
  pub bit_behind_peek : Has 1 (remaining ((Lsb0, 16) ∷ []) (peeked (fresh (0xAA ∷ 0xBB ∷ [])))) → ⊥
  -- Four bits after a skipped byte, of one byte.
  pub half_behind_skip : Has 4 (skipped Msb0 8 (fresh (0x12 ∷ []))) → ⊥
  -- A byte after a skip past the end.
  pub skip_past : Has 8 (skipped Msb0 16 (fresh (0x12 ∷ []))) → ⊥

-- Writing bits.
pub record WriteRows : Type 0 where
  -- 101010 then 010101, both `Msb0`.
  pub both_msb : written (msb 6 0b101010 ∷ msb 6 0b010101 ∷ []) ≡ 0xA9 ∷ 0x50 ∷ []
  -- Both `Lsb0`.
  pub both_lsb : written (lsb 6 0b101010 ∷ lsb 6 0b010101 ∷ []) ≡ 0x6A ∷ 0x05 ∷ []
  -- `Lsb0` then `Msb0`.
  pub lsb_then_msb : written (lsb 6 0b101010 ∷ msb 6 0b010101 ∷ []) ≡ 0x56 ∷ 0xA0 ∷ []
  -- `Msb0` then `Lsb0`.
  pub msb_then_lsb : written (msb 6 0b101010 ∷ lsb 6 0b010101 ∷ []) ≡ 0x95 ∷ 0x0A ∷ []
  -- 1010 then 0101, both `Msb0`.
  pub halves_msb : written (msb 4 0b1010 ∷ msb 4 0b0101 ∷ []) ≡ 0xA5 ∷ []
  -- Both `Lsb0`.
  pub halves_lsb : written (lsb 4 0b1010 ∷ lsb 4 0b0101 ∷ []) ≡ 0x5A ∷ []
  -- `Msb0` then `Lsb0`.
  pub halves_mixed : written (msb 4 0b1010 ∷ lsb 4 0b0101 ∷ []) ≡ 0xA5 ∷ []
  -- An empty write in the other order changes nothing.
  pub empty_between : written (msb 4 0b1010 ∷ lsb 0 0 ∷ msb 4 0b0101 ∷ []) ≡ 0xA5 ∷ []
  -- Two bytes in `Msb0` after three bits of `Lsb0`.
  pub bytes_behind_lsb : written (lsb 3 0b101 ∷ msb 16 0xABCD ∷ []) ≡ 0xCD ∷ 0xAB ∷ 0xA0 ∷ []
  -- A text and its zero, a byte at a time in `Msb0`, after three bits of `Lsb0`.
  pub text_behind_lsb : written (lsb 3 0b101 ∷ msb 8 0x61 ∷ msb 8 0x62 ∷ msb 8 0x00 ∷ []) ≡ 0x61 ∷ 0xAC ∷ 0x40 ∷ 0x00 ∷ []
  -- Nine bits of `Lsb0` after three of `Msb0`.
  pub nine_behind_msb : written (msb 3 0b101 ∷ lsb 9 0b100000001 ∷ []) ≡ 0xB0 ∷ 0x01 ∷ []
  -- Eight bits of `Lsb0` after three of `Msb0`.
  pub eight_behind_msb : written (msb 3 0b101 ∷ lsb 8 0b11110101 ∷ []) ≡ 0xBE ∷ 0x05 ∷ []
  -- What reads in `Lsb0` of three bytes show, written in `Lsb0`.
  pub across_bytes : written (lsb 5 0b00001 ∷ lsb 16 0b1010010110010001 ∷ lsb 3 0b000 ∷ []) ≡ 0xA1 ∷ 0x34 ∷ 0x12 ∷ []
  -- Bytes and bits in turn, all `Msb0`.
  pub bytes_and_bits : written (
      msb 8 0xAA ∷ msb 8 0xBB ∷ msb 4 0b1111 ∷ msb 4 0b0001 ∷ msb 8 0xAA ∷ msb 4 0b0001 ∷ msb 4 0b1111 ∷ msb 4 0b0001 ∷ msb 8 0xAA ∷ msb 4 0b1111 ∷ [])
      ≡ 0xAA ∷ 0xBB ∷ 0xF1 ∷ 0xAA ∷ 0x1F ∷ 0x1A ∷ 0xAF ∷ []
  -- Three bits of `Lsb0` are pending.
  pub pending_lsb : outcome (lsb 3 0b101 ∷ []) Nothing ≡ record { bytes = []; pending = Held Lsb0 (bits_of 3 0b101) }
  -- They are one byte when they are padded.
  pub padded_lsb : padded (Held Lsb0 (bits_of 3 0b101)) ≡ 0x05 ∷ []
  -- A second padding gives none.
  pub padded_twice : padded Nothing ≡ []
  -- Two halves and one bit, `Msb0`: a byte is given out, and the bit is pending.
  pub nine_bits : outcome (msb 4 0b1111 ∷ msb 4 0b0001 ∷ msb 1 0b1 ∷ []) Nothing ≡ record { bytes = 0xF1 ∷ []; pending = Held Msb0 (bits_of 1 0b1) }
  -- They are two bytes when they are padded.
  pub nine_bits_padded : written (msb 4 0b1111 ∷ msb 4 0b0001 ∷ msb 1 0b1 ∷ []) ≡ 0xF1 ∷ 0x80 ∷ []
  -- Two halves, and five bits that are pending, all `Msb0`.
  pub five_pending : outcome (msb 4 3 ∷ msb 4 1 ∷ msb 5 1 ∷ []) Nothing ≡ record { bytes = 0x31 ∷ []; pending = Held Msb0 (bits_of 5 0b00001) }
  -- Four, four, five and eleven bits, all `Msb0`.
  pub twenty_four_bits : written (msb 4 0b0011 ∷ msb 4 0b0001 ∷ msb 5 0b00101 ∷ msb 11 0b01010100111 ∷ []) ≡ 0x31 ∷ 0x2A ∷ 0xA7 ∷ []
