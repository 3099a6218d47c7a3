-- What is known of sources and sinks for tests.
use Rattle.std.specs.Prelude.{ℕ, zero, suc, List, [], ◌∷◌, drop, Option, Some}
use Rattle.std.specs.Borrow.{MutBor}
use Rattle.std.specs.Io.Cursor.{cursor_remaining, cursor_position, cursor_inner}
use Rattle.deku_probe.specs.declared.probe.FailAt.{FailAt}
use Rattle.deku_probe.specs.declared.probe.trickle.Trickle.{Trickle}
use Rattle.deku_device.specs.Devices.{KnownSource, KnownSink, bytes_before}
use Rattle.deku_device.specs.Cursors.{read_whole, slice_whole}

-- What is known of a source that gives one byte at a time.
abbrev pub trickling : Trickle → KnownSource
trickling s = record {
  remaining = cursor_remaining (λ b. Some b.now) s.inner;
  health = record { failures = Some 0; lenders = []; whole = read_whole (cursor_position s.inner) (Some (cursor_inner s.inner).now) };
}

-- How many calls failed, if this many are left, including the one that fails. None is left after
-- it.
abbrev pub failures_at : ℕ → ℕ
failures_at zero = 1
failures_at (suc n) = 0

-- What is known of a source that fails once.
abbrev pub failing_source : {B : Type 0} → (B → Option (List ℕ)) → FailAt B → KnownSource
failing_source bytes s = record {
  remaining = cursor_remaining bytes s.inner;
  health = record { failures = Some (failures_at s.left); lenders = []; whole = read_whole (cursor_position s.inner) (bytes (cursor_inner s.inner)) };
}

-- What is known of a sink that fails once.
abbrev pub failing_sink : FailAt (MutBor (List ℕ)) → KnownSink
failing_sink s = record {
  taken = bytes_before (cursor_position s.inner) (cursor_inner s.inner).now;
  room = Some (drop (cursor_position s.inner) (cursor_inner s.inner).now);
  health = record { failures = Some (failures_at s.left); lenders = (cursor_inner s.inner).ghost_name ∷ []; whole = slice_whole s.inner };
}
