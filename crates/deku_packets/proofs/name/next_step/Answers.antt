use Rattle.std.proofs.Common.{◌≡◌, Some, arith, refl, sym, ◌∙◌}
use Rattle.deku_packets.proofs.Following.{first_byte}
use Rattle.deku_packets.specs.Names.{Past, Cut, Half, Reserved, Onward}
use Rattle.deku_packets.proofs.name.next_step.Goals as goal

pub returns-in-None-clause-wrong : goal.returns-in-None-clause-wrong
returns-in-None-clause-wrong c =
    let first = first_byte c.args.message.now c.args.at c.in-Some.first.now c.in-Some.ensures.lookup.3.0 c.in-Some.ensures.lookup.1 in
    Past (Cut c.in-Some.first.now first (omega (arith, c.in-1-to-63)) (omega (arith, c.in-1-to-63)) (c.in-None.ensures.none refl)) (refl, refl)

pub returns-in-64-to-191-clause-wrong : goal.returns-in-64-to-191-clause-wrong
returns-in-64-to-191-clause-wrong c =
    let first = first_byte c.args.message.now c.args.at c.in-Some.first.now c.in-Some.ensures.lookup.3.0 c.in-Some.ensures.lookup.1 in
    Reserved c.in-Some.first.now first (omega (arith, c.in-64-to-191)) (omega (arith, c.in-64-to-191)) (refl, refl)

pub returns-in-Some-place_at-clause-step : goal.returns-in-Some-place_at-clause-step
returns-in-Some-place_at-clause-step c =
    let there = c.in-Some-place_at.ensures.there in
    let first = first_byte c.args.message.now c.args.at c.in-Some.first.now c.in-Some.ensures.lookup.3.0 c.in-Some.ensures.lookup.1 in
    (record { high = c.in-Some.first.now; low = there.0; first = first; second = there.1; marked = omega (arith, c.in-192-to-255); is = there.2 }, omega (arith, c.if-to-start.true))

pub returns-in-Some-2-clause-wrong : goal.returns-in-Some-2-clause-wrong
returns-in-Some-2-clause-wrong c =
    let there = c.in-Some-2.ensures.there in
    let first = first_byte c.args.message.now c.args.at c.in-Some.first.now c.in-Some.ensures.lookup.3.0 c.in-Some.ensures.lookup.1 in
    let same : Some c.in-Some-2.field-0 ≡ Some c.in-Some-place_at.to = sym c.in-Some-2.is ∙ c.in-Some-place_at.is in
    let one : c.in-Some-2.field-0 ≡ c.in-Some-place_at.to = cc in
    Onward c.in-Some-2.field-0 (record { high = c.in-Some.first.now; low = there.0; first = first; second = there.1; marked = omega (arith, c.in-192-to-255); is = there.2 }) (omega (arith, one, c.if-to-start.false)) (refl, refl)

pub returns-in-None-place_at-clause-wrong : goal.returns-in-None-place_at-clause-wrong
returns-in-None-place_at-clause-wrong c =
    let first = first_byte c.args.message.now c.args.at c.in-Some.first.now c.in-Some.ensures.lookup.3.0 c.in-Some.ensures.lookup.1 in
    Past (Half c.in-Some.first.now first (omega (arith, c.in-192-to-255)) (c.in-None-place_at.ensures.none refl)) (refl, refl)
