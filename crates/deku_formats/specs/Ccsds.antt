-- How many samples a packet of telemetry has.
use Rattle.std.specs.Prelude.{◌+◌, ◌*◌, ◌/◌, ◌%◌, ℕ, Option, Some, None, if◌then◌else◌, ◌==◌}

-- Four for each eleven bytes after the header, whose length is one less. Other numbers of bytes
-- name no count.
unfoldable pub samples_behind : ℕ → Option ℕ
samples_behind length = if (length + 1) % 11 == 0 then Some ((length + 1) / 11 * 4) else None
