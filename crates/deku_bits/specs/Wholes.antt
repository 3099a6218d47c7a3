-- All bytes of a device, and what a caller knows of them after calls.
use Rattle.std.specs.Prelude.{◌≡◌, ℕ, false, ◌+◌, ◌*◌, ◌^◌, ◌<◌, ◌≤◌, List, ◌++◌, length, take, drop, All, Option, Some, Result, Ok}
use Rattle.deku_stream.specs.declared.ctx.Order.{Order}
use Rattle.deku_stream.specs.declared.ctx.Order.TheVariants.{Msb0}
use Rattle.deku_stream.specs.declared.error.DekuError.{DekuError}
use Rattle.deku_stream.specs.Bits.{bits_in}
use Rattle.deku_stream.specs.Streams.{Stream, fresh, normal}
use Rattle.deku_stream.specs.Writers.{Nothing, append}
use Rattle.deku_device.specs.Devices.{Whole, ReadOnly, GoesOnward, bytes_before}
use Rattle.deku_stream.specs.Standings.{Standing, Going}
use Rattle.deku_reader.specs.ReaderCalls.{ReadsBytes}

-- After transfers a device holds what it took, and after that what it held before. A device that is
-- only read holds what it held.
abbrev pub WholeLaw : Type 0
WholeLaw = ((w v : Whole) (taken : List ℕ) → GoesOnward (Some w) (Some v) → bytes_before v.place v.bytes ≡ Some taken → v.bytes ≡ taken ++ drop (length taken) w.bytes)
    × ((w v : Whole) → GoesOnward (Some w) (Some v) → w.access ≡ ReadOnly → v.bytes ≡ w.bytes)

-- Bytes that are written when nothing is pending are given unchanged. Bytes that are read from a
-- byte boundary are the next bytes.
abbrev pub PlainLaw : Type 0
PlainLaw = ((bs : List ℕ) → All (λ b. b < 256) bs → append Msb0 (bits_in bs) Nothing ≡ record { bytes = bs; pending = Nothing })
    × ((o : Order) (n c : ℕ) (bs : List ℕ) (r : Result (List ℕ) DekuError) (u : Standing (Option Stream)) → All (λ b. b < 256) bs → n ≤ length bs → c + 8 * n < 2 ^ 64
    → ReadsBytes o n false (Going (Some (normal (fresh bs))) c) r u → r ≡ Ok (take n bs))
    × ((o : Order) (n c : ℕ) (bs xs : List ℕ) (u : Standing (Option Stream)) → All (λ b. b < 256) bs
    → ReadsBytes o n false (Going (Some (normal (fresh bs))) c) (Ok xs) u → (n ≤ length bs) × (xs ≡ take n bs))
