use Rattle.std.proofs.Common.{arith, rules, ◌∙◌}
use Rattle.deku_stream.proofs.Binary.{length-bits_of}
use Rattle.deku_stream.proofs.Windows.{how_many}
use Rattle.deku_stream.proofs.Through.{through_low_is, byte_masked}
use Rattle.deku_stream.proofs.window.Window.through_low.Goals as goal

pub overflow_add-number : goal.overflow_add-number
overflow_add-number c = record { fits = (through_low_is c.self.inside.len c.self.inside.bits c.args.eight c.args.self.now c.self.view_is c.self.invariant.1 c.self.invariant.0).0 }

pub overflow_cast-self : goal.overflow_cast-self
overflow_cast-self c = record { fits = byte_masked c.self.inside.len _ c.self.invariant.0 }

pub returns-clause-bits : goal.returns-clause-bits
returns-clause-bits c = (through_low_is c.self.inside.len c.self.inside.bits c.args.eight c.args.self.now c.self.view_is c.self.invariant.1 c.self.invariant.0).1

pub returns-clause-len : goal.returns-clause-len
returns-clause-len c =
    length-bits_of c.self.inside.len _ ∙ omega (arith, how_many c.self.inside.len c.self.inside.bits c.args.self.now c.self.view_is)

pub overflow_shl-number : goal.overflow_shl-number
overflow_shl-number c = search rules

pub overflow_sub-rest : goal.overflow_sub-rest
overflow_sub-rest c = search rules

pub overflow_shr-rest : goal.overflow_shr-rest
overflow_shr-rest c = search rules

pub overflow_shl-rest : goal.overflow_shl-rest
overflow_shl-rest c = search rules

pub nonzero_rem-rest-2 : goal.nonzero_rem-rest-2
nonzero_rem-rest-2 c = search rules

pub invariant_of-self : goal.invariant_of-self
invariant_of-self c = search rules
