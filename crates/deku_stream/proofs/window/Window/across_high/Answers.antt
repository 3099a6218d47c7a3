use Rattle.std.proofs.Common.{rules, arith}
use Rattle.deku_stream.proofs.Windows.{how_many}
use Rattle.deku_stream.proofs.Across.{across_high_is, below_64}
use Rattle.deku_stream.proofs.window.Window.across_high.Goals as goal

pub overflow_sub-behind : goal.overflow_sub-behind
overflow_sub-behind c =
    let w = how_many c.self.inside.len c.self.inside.bits c.args.self.now c.self.view_is in
    omega (arith, w, c.requires.short, c.requires.more, c.requires.few)

pub overflow_shr-rest : goal.overflow_shr-rest
overflow_shr-rest c =
    let w = how_many c.self.inside.len c.self.inside.bits c.args.self.now c.self.view_is in
    omega (arith, w, c.requires.short, c.requires.more, c.requires.few)

pub overflow_shr-result : goal.overflow_shr-result
overflow_shr-result c =
    let w = how_many c.self.inside.len c.self.inside.bits c.args.self.now c.self.view_is in
    omega (arith, w, c.requires.short, c.requires.more, c.requires.few)

pub overflow_add-result : goal.overflow_add-result
overflow_add-result c =
    let w = how_many c.self.inside.len c.self.inside.bits c.args.self.now c.self.view_is in
    let h = across_high_is c.self.inside.len c.self.inside.bits c.args.count c.args.eight c.args.self.now c.self.view_is c.self.invariant.1 (omega (arith, w, c.requires.short)) (omega (arith, w, c.requires.more)) c.requires.few (search rules) in
    record { fits = below_64 c.args.count _ c.requires.few h.0 }

pub returns-clause-below : goal.returns-clause-below
returns-clause-below c =
    let w = how_many c.self.inside.len c.self.inside.bits c.args.self.now c.self.view_is in
    (across_high_is c.self.inside.len c.self.inside.bits c.args.count c.args.eight c.args.self.now c.self.view_is c.self.invariant.1 (omega (arith, w, c.requires.short)) (omega (arith, w, c.requires.more)) c.requires.few (search rules)).0

pub returns-clause-cut : goal.returns-clause-cut
returns-clause-cut c =
    let w = how_many c.self.inside.len c.self.inside.bits c.args.self.now c.self.view_is in
    (across_high_is c.self.inside.len c.self.inside.bits c.args.count c.args.eight c.args.self.now c.self.view_is c.self.invariant.1 (omega (arith, w, c.requires.short)) (omega (arith, w, c.requires.more)) c.requires.few (search rules)).1

pub overflow_sub-above : goal.overflow_sub-above
overflow_sub-above c = search rules

pub overflow_shl-held : goal.overflow_shl-held
overflow_shl-held c = search rules

pub overflow_sub-rest : goal.overflow_sub-rest
overflow_sub-rest c = search rules

pub overflow_shl-rest : goal.overflow_shl-rest
overflow_shl-rest c = search rules

pub nonzero_rem-rest : goal.nonzero_rem-rest
nonzero_rem-rest c = search rules

pub overflow_cast-self : goal.overflow_cast-self
overflow_cast-self c = search rules

pub invariant_of-self : goal.invariant_of-self
invariant_of-self c = search rules
