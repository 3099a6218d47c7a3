-- Worked examples of lists of fields, as theorems that compute.
use Rattle.std.specs.Prelude.{ℕ, ◌≡◌, List, [], ◌∷◌, Some, pos, neg_ℤ, All}
use Rattle.deku_bits.specs.Bits.{bits_of}
use Rattle.deku_bits.specs.Streams.{Stream, fresh}
use Rattle.deku_bits.specs.Pieces.{Piece}
use Rattle.deku_bits.specs.Writers.{Nothing}
use Rattle.deku_bits.specs.Symmetry.{packed}
use Rattle.deku_bits.specs.Rows.{stream}
use Rattle.deku_num.specs.declared.ctx.Size.TheVariants.{Whole, Bits, Bytes}
use Rattle.deku_num.specs.declared.ctx.Layout.{Layout}
use Rattle.deku_num.specs.Rows.{big_msb, big_lsb, little_msb, little_lsb}
use Rattle.deku_fields.specs.declared.list.Kind.{Kind}
use Rattle.deku_fields.specs.declared.list.Kind.TheVariants.{U8, U16, U32, U128, I8, I16, I32}
use Rattle.deku_fields.specs.declared.list.Number.{Number}
use Rattle.deku_fields.specs.declared.list.Number.TheVariants.{Unsigned, Signed}
use Rattle.deku_fields.specs.declared.list.Item.{Item}
use Rattle.deku_fields.specs.Items.{IsFitting, ArePieces, LaysOut, AlignedFields, ReadsValues, fields_of, values_of}
use Rattle.deku_fields.specs.Cutting.{IsCutTo}
use Rattle.deku_fields.specs.Promise.{Begins, AreWritable, IsCountable}

-- A field with its value.
abbrev pub item : Kind → Layout → Number → Item
item kind layout value = record { field = record { kind = kind; layout = layout }; value = value }

-- The pieces of items, written one after the other and padded once, are bytes.
pub record WrittenAs (items : List Item) (bytes : List ℕ) : Type 0 where
  pub pieces : List Piece
  pub are : ArePieces items pieces
  pub is : bytes ≡ packed pieces

-- Aligned fitting items lay out the bytes and are written as them. The fields read the values from
-- the bytes, and touch each byte.
pub record BothWays (items : List Item) (bytes : List ℕ) : Type 0 where
  pub fitting : All IsFitting items
  pub aligned : AlignedFields (fields_of items)
  pub laid : LaysOut items bytes
  pub written : WrittenAs items bytes
  pub rest : Stream
  pub read : ReadsValues (fields_of items) (fresh bytes) (values_of items) rest
  pub touched : rest.bytes ≡ []

-- Two halves of a byte and two bytes.
abbrev pub word_items : List Item
word_items = item U8 (big_msb (Bits 4)) (Unsigned 6) ∷ item U8 (big_msb (Bits 4)) (Unsigned 9) ∷ item U16 (big_msb Whole) (Unsigned 49406) ∷ []

-- Three bits in `Msb0`, then nine in `Lsb0`: the order changes inside a byte.
abbrev pub turned_items : List Item
turned_items = item U8 (big_msb (Bits 3)) (Unsigned 5) ∷ item U16 (little_lsb (Bits 9)) (Unsigned 257) ∷ []

-- Lists of items, both ways.
pub record ListRows : Type 0 where
  -- No items.
  pub nothing : BothWays [] []
  -- Three bits.
  pub three_bits : BothWays (item U8 (big_msb (Bits 3)) (Unsigned 5) ∷ []) (0xA0 ∷ [])
  -- Three signed bits.
  pub three_signed : BothWays (item I8 (little_msb (Bits 3)) (Signed (neg_ℤ (pos 3))) ∷ []) (0xA0 ∷ [])
  -- Twelve signed bits, the low group first.
  pub twelve_signed : BothWays (item I16 (little_msb (Bits 12)) (Signed (neg_ℤ (pos 2))) ∷ []) (0xFE ∷ 0xF0 ∷ [])
  -- Two signed bytes.
  pub minus_two : BothWays (item I32 (big_msb (Bytes 2)) (Signed (neg_ℤ (pos 2))) ∷ []) (0xFF ∷ 0xFE ∷ [])
  -- Thirteen bits in `Lsb0`, the high group first.
  pub thirteen_bits : BothWays (item U16 (big_lsb (Bits 13)) (Unsigned 0x1001) ∷ []) (0x10 ∷ 0x01 ∷ [])
  -- The greatest such number.
  pub thirteen_greatest : BothWays (item U16 (big_lsb (Bits 13)) (Unsigned 0xFF1F) ∷ []) (0xFF ∷ 0x1F ∷ [])
  -- Two halves of a byte and two bytes.
  pub halves_and_word : BothWays word_items (0x69 ∷ 0xC0 ∷ 0xFE ∷ [])
  -- Thirteen and three bits in `Lsb0`, the high group first.
  pub thirteen_and_three : BothWays
      (item U16 (big_lsb (Bits 13)) (Unsigned 65311) ∷ item U8 (big_lsb (Bits 3)) (Unsigned 7) ∷ [])
      (0xFF ∷ 0xFF ∷ [])
  -- Two bytes between five bits and three.
  pub word_inside : BothWays
      (item U8 (little_lsb (Bits 5)) (Unsigned 1) ∷ item U16 (little_lsb Whole) (Unsigned 37285) ∷ item U8 (little_lsb (Bits 3)) (Unsigned 0) ∷ [])
      (0xA1 ∷ 0x34 ∷ 0x12 ∷ [])
  -- Sixteen bytes after three bits.
  pub wide_inside : BothWays
      (item U8 (little_lsb (Bits 3)) (Unsigned 5) ∷ item U128 (little_lsb Whole) (Unsigned 170141183460469231731687303715884105729) ∷ [])
      (0x0D ∷ 0x00 ∷ 0x00 ∷ 0x00 ∷ 0x00 ∷ 0x00 ∷ 0x00 ∷ 0x00 ∷ 0x00 ∷ 0x00 ∷ 0x00 ∷ 0x00 ∷ 0x00 ∷ 0x00 ∷ 0x00 ∷ 0x00 ∷ 0x04 ∷ [])
  -- An order that changes after two bytes.
  pub two_orders : BothWays
      (item U16 (big_lsb (Bits 13)) (Unsigned 0x1001) ∷ item U8 (big_lsb (Bits 3)) (Unsigned 4) ∷ item U8 (big_msb Whole) (Unsigned 0xAB)
      ∷ item U8 (big_msb (Bits 1)) (Unsigned 1) ∷ item U8 (big_msb (Bits 1)) (Unsigned 0) ∷ item U8 (big_msb (Bits 1)) (Unsigned 0)
      ∷ item U8 (big_msb (Bits 5)) (Unsigned 22) ∷ [])
      (0x10 ∷ 0x81 ∷ 0xAB ∷ 0x96 ∷ [])
  -- A frame with a token.
  pub token_frame : BothWays
      (item U8 (big_msb (Bits 4)) (Unsigned 1) ∷ item U8 (big_msb (Bits 4)) (Unsigned 1) ∷ item U16 (big_msb Whole) (Unsigned 0xBEEF) ∷ [])
      (0x11 ∷ 0xBE ∷ 0xEF ∷ [])
  -- A frame with five and eleven bits.
  pub pair_frame : BothWays
      (item U8 (big_msb (Bits 4)) (Unsigned 3) ∷ item U8 (big_msb (Bits 4)) (Unsigned 1)
      ∷ item U8 (big_msb (Bits 5)) (Unsigned 5) ∷ item U16 (big_msb (Bits 11)) (Unsigned 0x2A7) ∷ [])
      (0x31 ∷ 0x2A ∷ 0xA7 ∷ [])

-- A list whose order changes inside a byte has no round trip.
pub record TurnedRows : Type 0 where
  -- It is not aligned.
  pub unaligned : AlignedFields (fields_of turned_items) → ⊥
  -- It is written.
  pub written : WrittenAs turned_items (0xB0 ∷ 0x01 ∷ [])
  -- Other numbers are read from the bytes.
  pub read : ReadsValues (fields_of turned_items) (fresh (0xB0 ∷ 0x01 ∷ [])) (Unsigned 5 ∷ Unsigned 48 ∷ []) (stream (bits_of 4 0b0000) [])

-- What the promises require can be met.
pub record PromiseRows : Type 0 where
  -- Bytes that begin with a layout, and one byte after it.
  pub begins : Begins (fields_of word_items) word_items (0x69 ∷ 0xC0 ∷ 0xFE ∷ 0xAA ∷ []) (0xAA ∷ [])
  -- A slice of four bytes has the room for it.
  pub writable : AreWritable word_items (0x69 ∷ 0xC0 ∷ 0xFE ∷ []) (record { taken = Some []; room = Some (0 ∷ 0 ∷ 0 ∷ 0 ∷ []); pending = Nothing }) 0
  -- Its bits can be counted.
  pub countable : IsCountable word_items

-- Items that do not fit.
pub record MisfitRows : Type 0 where
  -- 16 in four bits.
  pub four_bits : IsFitting (item U8 (big_msb (Bits 4)) (Unsigned 16)) → ⊥
  -- 300 in a byte.
  pub one_byte : IsFitting (item U8 (big_msb Whole) (Unsigned 300)) → ⊥
  -- 4 in three signed bits.
  pub three_signed : IsFitting (item I8 (little_msb (Bits 3)) (Signed (pos 4))) → ⊥
  -- 0x1020 in thirteen bits: the last group has five, and 0x20 needs six.
  pub thirteen_bits : IsFitting (item U16 (big_lsb (Bits 13)) (Unsigned 0x1020)) → ⊥
  -- A number of four bytes in two bytes.
  pub two_bytes : IsFitting (item U32 (big_msb (Bytes 2)) (Unsigned 16909060)) → ⊥
  -- A signed number for an unsigned kind.
  pub other_number : IsFitting (item U8 (little_msb Whole) (Signed (pos 5))) → ⊥
  -- Nine bits of a byte.
  pub nine_bits : IsFitting (item U8 (little_msb (Bits 9)) (Unsigned 0)) → ⊥
  -- Thirteen signed bits in `Lsb0`, the high group first.
  pub signed_thirteen : IsFitting (item I16 (big_lsb (Bits 13)) (Signed (pos 0))) → ⊥

-- Numbers that are truncated to bytes.
pub record CutRows : Type 0 where
  -- Two bytes of 0x01020304.
  pub two_bytes : IsCutTo (record { kind = U32; layout = big_msb (Bytes 2) }) (Unsigned 16909060) (Unsigned 772)
  -- One signed byte of 300.
  pub one_byte : IsCutTo (record { kind = I16; layout = little_msb (Bytes 1) }) (Signed (pos 300)) (Signed (pos 44))
  -- One signed byte of 200.
  pub below_zero : IsCutTo (record { kind = I16; layout = little_msb (Bytes 1) }) (Signed (pos 200)) (Signed (neg_ℤ (pos 56)))
  -- A byte stays the same under any byte size.
  pub byte : IsCutTo (record { kind = U8; layout = little_msb (Bytes 9) }) (Unsigned 0xAB) (Unsigned 0xAB)
