use Rattle.std.proofs.Common.{take, All}
use Rattle.deku_c.specs.Codes.{IsNamed, IsSmall}
use Rattle.deku_c.proofs.codes.joined.Given as goal

abbrev pub invariant-loop-code : goal.invariant-loop-code
invariant-loop-code l = IsSmall l.joined → All IsNamed (take l.code-index l.codes)
