use Rattle.std.proofs.Common.{◌≡◌, ◌≤◌, length}
use Rattle.std.specs.Io.KnownBytes.{Keeps}
use Rattle.deku_packets_program.proofs.capture.fill.Given as goal

abbrev pub invariant-loop : goal.invariant-loop
invariant-loop g l = (l.done ≤ length l.buffer)
    × (l.done ≡ 0 → Keeps (g.R.Read.remaining l.initial.input) (g.R.Read.remaining l.input))
