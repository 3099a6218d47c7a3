use Rattle.std.proofs.Common.{rules, ◌≡◌, tests}
use Rattle.std.proofs.lemmas.Int.{to_z-of_z, ints}
use mir.Syntax.{w128}
use mir.Val.{SFits}
use Rattle.deku_fields.specs.declared.list.Number.TheVariants.{Signed, Unsigned}
use Rattle.deku_fields.specs.ListCalls.{IsOfKind}
use Rattle.deku_fields.proofs.Stepping.{item_passed}
use Rattle.deku_plan.proofs.plan.write.write_checked.Goals as goal

pub returns-in-Signed-clause-writes : goal.returns-in-Signed-clause-writes
returns-in-Signed-clause-writes g c =
    let is : c.args.item.now.value ≡ Signed c.in-Signed.value = search rules in
    let kind : IsOfKind c.args.item.now.field.kind c.args.item.now.value = search rules in
    let fits : SFits w128 c.in-Signed.value = search rules in
    item_passed c.args.item.now (Signed c.in-Signed.value) is c.number_type-number_type.ensures kind (rw (to_z-of_z w128 c.in-Signed.value fits) at c.write_signed.ensures.writes)

pub returns-in-Unsigned-clause-writes : goal.returns-in-Unsigned-clause-writes
returns-in-Unsigned-clause-writes g c =
    let is : c.args.item.now.value ≡ Unsigned c.in-Unsigned.value = search rules in
    let kind : IsOfKind c.args.item.now.field.kind c.args.item.now.value = search rules in
    item_passed c.args.item.now (Unsigned c.in-Unsigned.value) is c.number_type-number_type.ensures kind c.write_unsigned.ensures.writes

pub returns-then-not-holds-clause-writes : goal.returns-then-not-holds-clause-writes
returns-then-not-holds-clause-writes g c = let h = c.if-not-holds.ensures in search (ints, tests, rules)

pub returns-then-not-holds-clause-stopped : goal.returns-then-not-holds-clause-stopped
returns-then-not-holds-clause-stopped g c = let h = c.if-not-holds.ensures in search (ints, tests, rules)

pub returns-in-Unsigned-clause-stopped : goal.returns-in-Unsigned-clause-stopped
returns-in-Unsigned-clause-stopped g c = let h = c.if-not-holds.ensures in search (ints, tests, rules)

pub returns-in-Signed-clause-stopped : goal.returns-in-Signed-clause-stopped
returns-in-Signed-clause-stopped g c = let h = c.if-not-holds.ensures in search rules
