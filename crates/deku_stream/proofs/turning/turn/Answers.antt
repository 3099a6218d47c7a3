use Rattle.std.proofs.Common.{append-nil, ap₂, arith, flat_map, length, reverse, rules, sym, ◌%◌, ◌*◌, ◌++◌, ◌+◌, ◌∙◌, ◌≡◌, ◌≤◌}
use Rattle.std.proofs.lemmas.List.{take_all, drop_all}
use Rattle.deku_stream.specs.Bits.{chunks}
use Rattle.deku_stream.proofs.Shown.{shown_whole, shown_other, turned_more}
use Rattle.deku_stream.proofs.turning.turn.Goals as goal

pub returns-then-bits-ne0 : goal.returns-then-bits-ne0
returns-then-bits-ne0 c =
    c.reverse.ensures.after ∙ sym (shown_other c.args.bits.now (λ (e : length c.args.bits.now % 8 ≡ 0). omega arith))

pub returns : goal.returns
returns c =
    let bits = c.loop-group.bits in
    let at = 8 * c.loop-group.group in
    let whole : length c.args.bits.now % 8 ≡ 0 = omega arith in
    let end : length bits ≤ at = omega arith in
    sym (ap₂ (λ x y. x ++ flat_map reverse (chunks y)) (take_all at bits end) (drop_all at bits end) ∙ append-nil bits)
    ∙ c.loop-group.invariant ∙ sym (shown_whole c.args.bits.now whole)

pub loop-group-preserved : goal.loop-group-preserved
loop-group-preserved c =
    let bits = c.loop-group.bits in
    let at = 8 * c.loop-group.group in
    let next : 8 * (c.loop-group.group + 1) ≡ at + 8 = omega arith in
    rw (next, c.reverse_group.ensures) (turned_more bits at (omega arith) ∙ c.loop-group.invariant)

pub loop-group-init : goal.loop-group-init
loop-group-init c = search rules

pub overflow_mul-group : goal.overflow_mul-group
overflow_mul-group c = search rules

pub reverse_group-requires : goal.reverse_group-requires
reverse_group-requires c = search rules
