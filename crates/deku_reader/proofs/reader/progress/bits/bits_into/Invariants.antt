use Rattle.std.proofs.Common.{◌≡◌, ◌*◌, ◌<◌, ◌≤◌, length, take}
use Rattle.deku_device.specs.Devices.{DeviceKept}
use Rattle.deku_stream.specs.Moving.{Moves}
use Rattle.deku_reader.proofs.reader.progress.bits.bits_into.Given as goal

abbrev pub invariant-loop-run : goal.invariant-loop-run
invariant-loop-run g l =
    let known = g.R.Source.known in
    record {
      bound : length l.window ≤ 8;
      short : 0 < l.run → length l.window < 8;
      none : l.run ≡ 0 → (l.window ≡ l.initial.window) × ((known l.source).remaining ≡ (known l.initial.source).remaining);
      moved : Moves l.order l.initial.window (known l.initial.source).remaining (take (128 * l.run) l.dst) l.window (known l.source).remaining;
      still : length l.initial.dst ≤ length l.initial.window → l.source ≡ l.initial.source;
      kept : DeviceKept (known l.initial.source).health (known l.source).health;
    }
