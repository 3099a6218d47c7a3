use Rattle.std.proofs.Common.{◌≡◌, ◌+◌, ◌-◌, ◌^◌, ◌<◌, subst, length-set, ◌∙◌, arith}
use Rattle.deku_num.specs.Cutting.{behind}
use Rattle.deku_reading.proofs.Cutting.{others_high, others_below}
use Rattle.deku_reading.proofs.CuttingEach.{none_cut, item_cut, all_cut, twice_shifted}
use Rattle.deku_reading.proofs.impls.array.ArrayArrayLike.cut.Goals as goal
use Rattle.deku_reading.proofs.impls.array.ArrayArrayLike.cut.Goals.{in-Msb0, in-Lsb0}

pub loop-place-init : goal.loop-place-init
loop-place-init g c = record { far = none_cut _ _ _ _ _; long = c.requires.slots; few = c.requires.few; within = omega arith; below = c.requires.below }

pub loop-place-preserved : goal.loop-place-preserved
loop-place-preserved g c =
    let at = c.loop-place.invariant in
    let is = c.in_ok-item.ensures in
    let b = c.in_ok-item.bits in
    let left = c.loop-place.left - b in
    let all : c.loop-place.left ≡ b + left = omega (arith, is.within) in
    let rest : c.match-order.rest ≡ behind c.args.order c.loop-place.rest b left = elim c.match-order.branch [
      | in-Msb0 w ↦ others_high c.args.order c.match-order.rest c.loop-place.rest b left w.in-Msb0.is (omega (arith, at.few, is.some)) w.rest-is
      | in-Lsb0 w ↦ rw w.in-Lsb0.is (twice_shifted c.match-order.rest c.loop-place.rest b is.some w.rest-is)
    ] in
    record {
      far = rw rest (item_cut _ c.args.order c.args.word c.args.room c.loop-place.place _ c.loop-place.rest c.loop-place.left c.in_ok-item.item b (omega (arith, at.long)) at.far is);
      long = length-set _ _ _ ∙ at.long;
      few = omega (arith, at.few);
      within = omega (arith, at.within);
      below = others_below c.args.order c.match-order.rest c.loop-place.rest b left rest (subst (λ i. c.loop-place.rest < 2 ^ i) all at.below);
    }

pub returns : goal.returns
returns g c = all_cut _ c.args.order g.row.N c.args.word c.args.room c.loop-place.place _ c.loop-place.rest c.loop-place.left (omega (arith, c.requires.slots)) c.loop-place.invariant.long (omega (arith, c.requires.slots, c.if-count-eq0.false)) c.loop-place.invariant.far
