use Rattle.std.proofs.Common.{rules, arith, ◌∙◌}
use Rattle.deku_stream.proofs.Binary.{length-bits_of}
use Rattle.deku_stream.proofs.Windows.{how_many}
use Rattle.deku_stream.proofs.Through.{through_high_is}
use Rattle.deku_stream.proofs.window.Window.through_high.Goals as goal

pub overflow_add-result : goal.overflow_add-result
overflow_add-result c =
    let h = through_high_is c.self.inside.len c.self.inside.bits c.args.eight c.args.self.now c.self.view_is c.self.invariant.1 c.self.invariant.0 (search rules) in
    record { fits = h.0 }

pub returns-clause-bits : goal.returns-clause-bits
returns-clause-bits c =
    (through_high_is c.self.inside.len c.self.inside.bits c.args.eight c.args.self.now c.self.view_is c.self.invariant.1 c.self.invariant.0 (search rules)).1

pub returns-clause-len : goal.returns-clause-len
returns-clause-len c =
    length-bits_of c.self.inside.len _ ∙ omega (arith, how_many c.self.inside.len c.self.inside.bits c.args.self.now c.self.view_is)

pub overflow_sub-held : goal.overflow_sub-held
overflow_sub-held c = search rules

pub overflow_shl-held : goal.overflow_shl-held
overflow_shl-held c = search rules

pub overflow_shl-rest : goal.overflow_shl-rest
overflow_shl-rest c = search rules

pub nonzero_rem-rest : goal.nonzero_rem-rest
nonzero_rem-rest c = search rules

pub overflow_cast-self : goal.overflow_cast-self
overflow_cast-self c = search rules

pub overflow_shr-result : goal.overflow_shr-result
overflow_shr-result c = search rules

pub invariant_of-self : goal.invariant_of-self
invariant_of-self c = search rules
