-- Sizes of types, as calls return them.
use Rattle.std.specs.Prelude.{ℕ, zero, suc, ◌+◌, ◌*◌, ◌/◌, ◌%◌, ◌^◌, Option, None, Some, if◌then◌else◌, ◌==◌, nat_lt}

-- This many bits, if they fit a `usize`.
abbrev pub within_usize : Option ℕ → Option ℕ
within_usize None = None
within_usize (Some n) = if nat_lt n (2 ^ 64) then Some n else None

-- The number of bytes of these bits, if they are whole bytes.
abbrev pub eighth : Option ℕ → Option ℕ
eighth None = None
eighth (Some n) = if n % 8 == 0 then Some (n / 8) else None

-- The bits of both, if both are known.
abbrev pub both : Option ℕ → Option ℕ → Option ℕ
both (Some n) (Some k) = Some (n + k)
both _ _ = None

-- The bits of n items, one after the other. No items take no bits.
abbrev pub bits_times : ℕ → Option ℕ → Option ℕ
bits_times zero item = Some 0
bits_times (suc n) None = None
bits_times (suc n) (Some bits) = Some (suc n * bits)
