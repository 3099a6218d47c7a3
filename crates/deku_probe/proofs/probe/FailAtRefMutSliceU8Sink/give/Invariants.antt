use Rattle.std.proofs.Common.{◌≡◌, ◌+◌, ◌-◌, ◌<◌, take}
use Rattle.std.specs.Io.Cursor.{cursor_position}
use Rattle.deku_probe.specs.Probes.{failing_sink}
use Rattle.deku_device.specs.Devices.{Gave}
use Rattle.deku_probe.proofs.probe.FailAtRefMutSliceU8Sink.give.Given as goal

abbrev pub invariant-loop-byte : goal.invariant-loop-byte
invariant-loop-byte l = record {
  given : Gave (failing_sink l.initial.self) (failing_sink l.self) (take l.byte-index l.bytes);
  place : cursor_position l.self.inner ≡ cursor_position l.initial.self.inner + l.byte-index;
  counted : l.self.left ≡ l.initial.self.left - l.byte-index;
  fails : 0 < l.initial.self.left → l.byte-index < l.initial.self.left;
}
