use Rattle.std.proofs.Common.{◌≡◌, ◌+◌, ◌-◌, ◌*◌, ◌≤◌, ◌++◌, Bool, List, length, take, drop, ap, sym, ◌∙◌, arith}
use Rattle.std.proofs.lemmas.List.{take_all}
use Rattle.deku_bits.specs.Bits.{bits_in}
use Rattle.deku_plan.specs.Plans.{widths}
use Rattle.deku_plan.specs.Laying.{turns, row_bits}
use Rattle.deku_plan.proofs.Recorded.{room}
use Rattle.deku_plan.proofs.Laying.{one_fits, record_more}
use Rattle.deku_plan.proofs.join.join_records.Goals as goal

pub join_record-byte-requires-clause-fitting : goal.join_record-byte-requires-clause-fitting
join_record-byte-requires-clause-fitting c =
    let ss = c.args.steps.now in
    let ns = c.args.values.now in
    let same : (c.loop.place + length ss) - c.loop.place ≡ length ss = omega arith in
    rw same (one_fits ss c.args.count c.loop.counter c.loop.place ns (omega arith) c.loop.invariant.0 c.requires.fitting)

pub loop-preserved : goal.loop-preserved
loop-preserved c =
    let ss = c.args.steps.now in
    let ns = c.args.values.now in
    let one = c.join_record-byte in
    let next : List Bool = row_bits ss (take ((c.loop.place + length ss) - c.loop.place) (drop c.loop.place ns)) in
    let inside : c.loop.place + length ss ≤ length ns = omega (arith, c.loop.invariant.0, c.requires.values, room c.loop.counter c.args.count (length ss) (omega arith)) in
    let same : (c.loop.place + length ss) - c.loop.place ≡ length ss = omega arith in (
      omega (arith, c.loop.invariant.0),
      one.ensures.bits
          ∙ ap (λ s. s ++ next) c.loop.invariant.1
          ∙ sym (record_more ss c.loop.counter c.loop.place (c.loop.place + length ss) ns _ c.loop.invariant.0 (omega arith) inside (ap (λ n. take n (drop c.loop.place ns)) same)),
      omega (arith, one.ensures.count, c.loop.invariant.2),
      one.ensures.long ∙ c.loop.invariant.3,
    )

pub returns-clause-bits : goal.returns-clause-bits
returns-clause-bits c =
    let ss = c.args.steps.now in
    let ns = c.args.values.now in
    let count : c.loop.counter ≡ c.args.count = omega arith in
    let all : c.loop.counter * widths ss ≡ 8 * length c.args.out.now = ap (λ k. k * widths ss) count ∙ sym c.requires.whole in
    let places : c.loop.place ≡ length ns = c.loop.invariant.0 ∙ ap (λ k. k * length ss) count ∙ sym c.requires.values in
    sym (ap bits_in (take_all c.loop.byte c.loop.out (omega (arith, c.loop.invariant.2, c.loop.invariant.3, all))))
    ∙ c.loop.invariant.1 ∙ ap (λ k. row_bits (turns k ss) (take c.loop.place ns)) count ∙ ap (row_bits (turns c.args.count ss)) (take_all c.loop.place ns (omega (arith, places)))
