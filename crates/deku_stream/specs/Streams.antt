-- Streams: a window of unread bits, and the bytes after it.
use Rattle.std.specs.Prelude.{ℕ, ◌+◌, ◌*◌, ◌-◌, ◌/◌, ◌%◌, ◌<◌, ◌≤◌, ◌≡◌, min, Bool, List, [], ◌∷◌, ◌++◌, length, take, drop, flat_map, All, if◌then◌else◌, ◌==◌}
use Rattle.deku_stream.specs.declared.ctx.Order.{Order}
use Rattle.deku_stream.specs.Bits.{bin, byte_bits, facing, groups}

-- The unread bits of one byte, high bit first and at most eight, and the bytes after it.
pub record Stream : Type 0 where
  pub window : List Bool
  pub bytes : List ℕ

-- Bytes of which nothing is read yet.
abbrev pub fresh : List ℕ → Stream
fresh bs = record { window = []; bytes = bs }

-- A window of eight bits is put back as the first of the next bytes.
unfoldable pub normal : Stream → Stream
normal S = if length S.window == 8 then fresh (bin S.window ∷ S.bytes) else S

-- What a call of `end` leaves: an empty window is filled with the next byte.
abbrev pub peeked : Stream → Stream
peeked S = elim S.window [
  | [] ↦ elim S.bytes [ [] ↦ S | b ∷ bs ↦ record { window = byte_bits b; bytes = bs } ]
  | x ∷ xs ↦ S
]

-- The bits of bytes, in an order.
abbrev pub flow : Order → List ℕ → List Bool
flow o bs = flat_map (λ b. facing o (byte_bits b)) bs

-- The next bits in an order: the window, then the bits of each byte.
abbrev pub seen : Order → Stream → List Bool
seen o S = facing o S.window ++ flow o S.bytes

-- How many bits there are.
abbrev pub bit_count : Stream → ℕ
bit_count S = length S.window + 8 * length S.bytes

-- There are at least n bits.
abbrev pub Has : ℕ → Stream → Type 0
Has n S = n ≤ bit_count S

-- There are fewer than n bits.
abbrev pub Lacks : ℕ → Stream → Type 0
Lacks n S = bit_count S < n

-- What is taken: the first n bits in this order.
unfoldable pub taken : Order → ℕ → Stream → List Bool
taken o n S = take n (seen o S)

-- How many bytes after the window n bits touch.
abbrev pub touched : ℕ → Stream → ℕ
touched n S = groups (n - length S.window)

-- What is left: the unused part of the window, or of the last byte that was touched, and then the
-- untouched bytes.
unfoldable pub left : Order → ℕ → Stream → Stream
left o n S = record {
  window = facing o (drop n (seen o (record S { bytes = take (touched n S) S.bytes })));
  bytes = drop (touched n S) S.bytes;
}

-- How many bits a skip takes last: those after the window and the whole bytes, fewer than eight.
abbrev pub last_part : ℕ → Stream → ℕ
last_part n S = (n - min n (length S.window)) % 8

-- The stream without its next k bytes, or without all if there are fewer.
abbrev pub without : ℕ → Stream → Stream
without k S = record S { bytes = drop k S.bytes }

-- A skip before its last part: what the window has of the n bits is taken, and whole bytes are
-- skipped.
abbrev pub passed : Order → ℕ → Stream → Stream
passed o n S =
    let c : ℕ = min n (length S.window) in
    without ((n - c) / 8) (left o c S)

-- A skip: what the window has of the n bits, whole bytes, and the remaining bits, which are fewer
-- than eight.
unfoldable pub skipped : Order → ℕ → Stream → Stream
skipped o n S = left o (last_part n S) (passed o n S)

-- A read of a stream is a read of its normal form: the same is taken, and the same stream is left.
abbrev pub PeekLaw : Type 0
PeekLaw = (o : Order) (n : ℕ) (S : Stream) → length S.window ≤ 8 → Has n S
    → (taken o n S ≡ taken o n (normal S)) × (normal (left o n S) ≡ left o n (normal S))

-- Two reads in one order are one read.
abbrev pub CutLaw : Type 0
CutLaw = (o : Order) (m n : ℕ) (S : Stream) → length S.window < 8 → Has (m + n) S
    → (taken o (m + n) S ≡ taken o m S ++ taken o n (left o m S))
    × (left o (m + n) S ≡ left o n (left o m S))
    × (length (left o m S).window < 8) × Has n (left o m S)

-- A skip of no more bits than there are leaves what a read of as many leaves.
abbrev pub SkipLaw : Type 0
SkipLaw = (o : Order) (n : ℕ) (S : Stream) → length S.window ≤ 8 → Has n S → skipped o n S ≡ left o n S

-- A peek leaves the same stream, so it changes no later read and no later skip.
abbrev pub EndLaw : Type 0
EndLaw = (S : Stream) → length S.window ≤ 8 → All (λ b. b < 256) S.bytes
    → (normal (peeked S) ≡ normal S)
    × ((o : Order) (n : ℕ) → Has n S → Has n (peeked S) × (taken o n (peeked S) ≡ taken o n S) × (normal (left o n (peeked S)) ≡ normal (left o n S)))
    × ((o : Order) (n : ℕ) → normal (skipped o n (peeked S)) ≡ normal (skipped o n S))

-- A skip of a stream is a skip of its normal form: the same stream is left, and the last part has
-- enough bits in both or in neither.
abbrev pub PeekSkipLaw : Type 0
PeekSkipLaw = (o : Order) (n : ℕ) (S : Stream) → length S.window ≤ 8
    → (normal (skipped o n S) ≡ skipped o n (normal S))
    × (Has (last_part n S) (passed o n S) → Has (last_part n (normal S)) (passed o n (normal S)))
    × (Lacks (last_part n S) (passed o n S) → Lacks (last_part n (normal S)) (passed o n (normal S)) × (last_part n (normal S) ≡ last_part n S))
