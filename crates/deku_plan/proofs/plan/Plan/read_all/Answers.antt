use Rattle.std.proofs.Common.{◌∙◌, ◌*◌, ◌<◌, ◌≤◌, Ok, length, refl, subst}
use Rattle.deku_plan.specs.Records.{records, ReadsAll}
use Rattle.deku_plan.proofs.Steps.{all_allowed}
use Rattle.deku_plan.proofs.Recorded.{records_reads}
use Rattle.deku_plan.proofs.Wholly.{back_all, finds_all}
use Rattle.deku_plan.proofs.plan.Plan.read_all.Goals as goal

pub returns-then-are_there-clause-meaning : goal.returns-then-are_there-clause-meaning
returns-then-are_there-clause-meaning c =
    let fs = c.self.inside.fields.items in
    let at = rw (c.as_slice-fields.ensures.value) at c.cut_records.ensures in
    let counted = subst (λ n. c.args.count * n < 18446744073709551616) c.self.invariant.bits (c.if-are_there.ensures.counted refl) in
    let there = subst (λ n. c.args.count * n ≤ 8 * length c.args.bytes.now) c.self.invariant.bits (c.if-are_there.ensures.there refl) in
    subst (λ x. ReadsAll (records c.args.count x) c.args.bytes.now (Ok c.cut_records.new.out)) c.self.view_is
    (records_reads fs c.args.count c.args.bytes.now c.cut_records.new.out (all_allowed fs c.self.inside.steps.items c.self.invariant.steps) (c.self.invariant.straight c.if-self.true) counted there at)

pub returns-then-are_there-clause-values : goal.returns-then-are_there-clause-values
returns-then-are_there-clause-values c = back_all (records c.args.count c.args.self.now) c.args.bytes.now (Ok c.cut_records.new.out) (returns-then-are_there-clause-meaning c)

pub returns-then-are_there-clause-found : goal.returns-then-are_there-clause-found
returns-then-are_there-clause-found c = finds_all (records c.args.count c.args.self.now) c.args.bytes.now (Ok c.cut_records.new.out) (returns-then-are_there-clause-meaning c)

pub returns-clause-meaning : goal.returns-clause-meaning
returns-clause-meaning c = let same = c.as_slice-fields.ensures.value ∙ c.self.view_is in rw same at c.read_from_first.ensures

pub returns-clause-values : goal.returns-clause-values
returns-clause-values c = back_all (records c.args.count c.args.self.now) c.args.bytes.now _ (returns-clause-meaning c)

pub returns-clause-found : goal.returns-clause-found
returns-clause-found c = finds_all (records c.args.count c.args.self.now) c.args.bytes.now _ (returns-clause-meaning c)
