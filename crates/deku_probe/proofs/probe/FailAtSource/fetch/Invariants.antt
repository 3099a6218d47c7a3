use Rattle.std.proofs.Common.{◌≡◌, ◌+◌, ◌-◌, ◌<◌, take}
use Rattle.std.specs.Io.Cursor.{cursor_position, cursor_inner}
use Rattle.std.specs.Io.KnownBytes.{Consumes}
use Rattle.deku_probe.specs.Probes.{failing_source}
use Rattle.deku_device.specs.Devices.{DeviceKept}
use Rattle.deku_probe.proofs.probe.FailAtSource.fetch.Given as goal

abbrev pub invariant-loop-place : goal.invariant-loop-place
invariant-loop-place g l =
    let known = failing_source g.B.AsBytes.bytes in
    record {
      bytes : Consumes (known l.initial.self).remaining (known l.self).remaining (take l.place-index l.buf);
      kept : DeviceKept (known l.initial.self).health (known l.self).health;
      place : cursor_position l.self.inner ≡ cursor_position l.initial.self.inner + l.place-index;
      inner : cursor_inner l.self.inner ≡ cursor_inner l.initial.self.inner;
      counted : l.self.left ≡ l.initial.self.left - l.place-index;
      fails : 0 < l.initial.self.left → l.place-index < l.initial.self.left;
    }
