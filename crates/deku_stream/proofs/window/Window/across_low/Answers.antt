use Rattle.std.proofs.Common.{arith, rules}
use Rattle.deku_stream.proofs.Windows.{how_many}
use Rattle.deku_stream.proofs.Across.{across_low_is, below_64}
use Rattle.deku_stream.proofs.window.Window.across_low.Goals as goal

pub overflow_sub-behind : goal.overflow_sub-behind
overflow_sub-behind c =
    let w = how_many c.self.inside.len c.self.inside.bits c.args.self.now c.self.view_is in
    omega (arith, w, c.requires.short, c.requires.more, c.requires.few)

pub overflow_shl-low : goal.overflow_shl-low
overflow_shl-low c =
    let w = how_many c.self.inside.len c.self.inside.bits c.args.self.now c.self.view_is in
    omega (arith, w, c.requires.short, c.requires.more, c.requires.few)

pub overflow_shr-low : goal.overflow_shr-low
overflow_shr-low c =
    let w = how_many c.self.inside.len c.self.inside.bits c.args.self.now c.self.view_is in
    omega (arith, w, c.requires.short, c.requires.more, c.requires.few)

pub overflow_add-number : goal.overflow_add-number
overflow_add-number c =
    let w = how_many c.self.inside.len c.self.inside.bits c.args.self.now c.self.view_is in
    let h = across_low_is c.self.inside.len c.self.inside.bits c.args.count c.args.eight c.args.self.now c.self.view_is c.self.invariant.1 (omega (arith, w, c.requires.short)) (omega (arith, w, c.requires.more)) c.requires.few in
    record { fits = below_64 c.args.count _ c.requires.few h.0 }

pub returns-clause-below : goal.returns-clause-below
returns-clause-below c =
    let w = how_many c.self.inside.len c.self.inside.bits c.args.self.now c.self.view_is in
    (across_low_is c.self.inside.len c.self.inside.bits c.args.count c.args.eight c.args.self.now c.self.view_is c.self.invariant.1 (omega (arith, w, c.requires.short)) (omega (arith, w, c.requires.more)) c.requires.few).0

pub returns-clause-cut : goal.returns-clause-cut
returns-clause-cut c =
    let w = how_many c.self.inside.len c.self.inside.bits c.args.self.now c.self.view_is in
    (across_low_is c.self.inside.len c.self.inside.bits c.args.count c.args.eight c.args.self.now c.self.view_is c.self.invariant.1 (omega (arith, w, c.requires.short)) (omega (arith, w, c.requires.more)) c.requires.few).1

pub overflow_sub-above : goal.overflow_sub-above
overflow_sub-above c = search rules

pub overflow_shl-number : goal.overflow_shl-number
overflow_shl-number c = search rules

pub overflow_shr-rest : goal.overflow_shr-rest
overflow_shr-rest c = search rules

pub overflow_shl-rest : goal.overflow_shl-rest
overflow_shl-rest c = search rules

pub nonzero_rem-rest-2 : goal.nonzero_rem-rest-2
nonzero_rem-rest-2 c = search rules

pub overflow_cast-self : goal.overflow_cast-self
overflow_cast-self c = search rules

pub invariant_of-self : goal.invariant_of-self
invariant_of-self c = search rules
