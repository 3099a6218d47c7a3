use Rattle.std.proofs.Common.{◌≡◌, ◌++◌, ◌*◌, take, drop, reverse, flat_map}
use Rattle.deku_stream.specs.Bits.{chunks}
use Rattle.deku_stream.proofs.turning.turn.Given as goal

abbrev pub invariant-loop-group : goal.invariant-loop-group
invariant-loop-group l = take (8 * l.group) l.bits ++ flat_map reverse (chunks (drop (8 * l.group) l.bits)) ≡ flat_map reverse (chunks l.initial.bits)
