-- Writing: the bits that wait for a byte, and what an append or the padding makes of them.
use Rattle.std.specs.Prelude.{ℕ, ◌+◌, ◌-◌, ◌*◌, ◌/◌, ◌%◌, ◌<◌, ◌≡◌, min, Bool, List, [], ◌∷◌, ◌++◌, length, map, take, drop, reverse, if◌then◌else◌}
use Rattle.deku_stream.specs.declared.ctx.Order.{Order}
use Rattle.deku_stream.specs.declared.ctx.Order.TheVariants.{Msb0, Lsb0}
use Rattle.deku_stream.specs.Bits.{bin, chunks, group_number, facing, shown}
use Rattle.deku_stream.specs.Pieces.{same_order, filled}

-- Bits that wait for a byte: none, or at most seven of one order, the high bit first.
pub data Pending : Type 0 where
  Nothing : Pending
  Held : Order → List Bool → Pending

-- Bits of an order are pending, if there are any.
abbrev pub held : Order → List Bool → Pending
held o [] = Nothing
held o (b ∷ s) = Held o (b ∷ s)

-- The pending bits, the high bit first.
abbrev pub pending_bits : Pending → List Bool
pending_bits Nothing = []
pending_bits (Held o s) = s

-- What writing makes of pending bits: the bytes to give out, and what is pending then.
pub record Written : Type 0 where
  pub bytes : List ℕ
  pub pending : Pending

-- The whole groups of eight.
abbrev pub whole_groups : List Bool → List Bool
whole_groups t = take (8 * (length t / 8)) t

-- The bits after the whole groups of eight.
abbrev pub remainder : List Bool → List Bool
remainder t = drop (8 * (length t / 8)) t

-- A list in an order is cut into groups of eight: each is a byte, and the remainder is pending.
abbrev pub cut : Order → List Bool → Written
cut o t = record {
  bytes = map (group_number o) (chunks (whole_groups t));
  pending = held o (facing o (remainder t));
}

-- Bits after pending bits of the same order, or after none: the list follows that a read shows as
-- these bits.
abbrev pub same_append : Order → List Bool → List Bool → Written
same_append o bits L = cut o (facing o L ++ shown o bits)

-- `Lsb0` bits go after as many of the pending `Msb0` bits as make whole bytes with them, or after
-- all, and before the others. Of `Msb0` bits the whole bytes at the end go out, the last one first,
-- and the bits before them go above the pending `Lsb0` bits.
abbrev pub cross_append : Order → List Bool → List Bool → Written
cross_append Lsb0 bits L =
    let c : ℕ = min (8 - length bits % 8) (length L) in
    let t : List Bool = take c L ++ bits ++ drop c L in
    record { bytes = map bin (chunks (whole_groups t)); pending = held Lsb0 (remainder t) }
cross_append Msb0 bits L =
    let r : ℕ = length bits % 8 in
    let t : List Bool = take r bits ++ L in
    record {
      bytes = reverse (map bin (chunks (drop r bits))) ++ map bin (chunks (whole_groups t));
      pending = held Msb0 (remainder t);
    }

-- One write. An empty one changes nothing.
unfoldable pub append : Order → List Bool → Pending → Written
append o [] P = record { bytes = []; pending = P }
append o bits Nothing = same_append o bits []
append o bits (Held p L) = if same_order o p then same_append o bits L else cross_append o bits L

-- The byte of the padding: zeros after `Msb0` bits, above `Lsb0` bits, up to eight. There is none
-- if nothing is pending.
unfoldable pub padded : Pending → List ℕ
padded Nothing = []
padded (Held o s) = group_number o (filled (facing o s)) ∷ []

-- The padding: its byte is given out, and nothing is pending.
abbrev pub finalized : Pending → Written
finalized P = record { bytes = padded P; pending = Nothing }

-- Nothing is pending, or bits of this order are.
abbrev pub Meets : Order → Pending → Type 0
Meets o Nothing = o ≡ o
Meets o (Held p s) = o ≡ p

-- Two writes in one order are one write of both lists.
abbrev pub AppendLaw : Type 0
AppendLaw = (o : Order) (s t : List Bool) (P : Pending) → Meets o P
    → let first : Written = append o (shown o s) P in
    let second : Written = append o (shown o t) first.pending in
    append o (shown o (s ++ t)) P ≡ record { bytes = first.bytes ++ second.bytes; pending = second.pending }

-- After a write in any order as many bits are given out and pending as were pending and written,
-- and fewer than eight are pending. The padding adds fewer than eight bits, and a second one adds
-- nothing.
abbrev pub CountLaw : Type 0
CountLaw = ((o : Order) (bits : List Bool) (P : Pending) → length (pending_bits P) < 8
    → (8 * length (append o bits P).bytes + length (pending_bits (append o bits P).pending) ≡ length (pending_bits P) + length bits)
    × (length (pending_bits (append o bits P).pending) < 8))
    × ((o : Order) (s : List Bool) → length s < 8 → 8 * length (padded (held o s)) < length s + 8)
    × ((P : Pending) → padded (finalized P).pending ≡ [])
