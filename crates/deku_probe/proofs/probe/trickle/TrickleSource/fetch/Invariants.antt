use Rattle.std.proofs.Common.{take}
use Rattle.std.specs.Io.KnownBytes.{Consumes}
use Rattle.deku_probe.specs.Probes.{trickling}
use Rattle.deku_device.specs.Devices.{DeviceKept}
use Rattle.deku_probe.proofs.probe.trickle.TrickleSource.fetch.Given as goal

abbrev pub invariant-loop-place : goal.invariant-loop-place
invariant-loop-place l = record {
  bytes : Consumes (trickling l.initial.self).remaining (trickling l.self).remaining (take l.place-index l.buf);
  kept : DeviceKept (trickling l.initial.self).health (trickling l.self).health;
}
