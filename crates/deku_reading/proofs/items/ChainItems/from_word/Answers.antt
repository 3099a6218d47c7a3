use Rattle.std.proofs.Common.{◌≡◌, ◌+◌, ◌-◌, ◌^◌, ◌<◌, subst, arith}
use Rattle.deku_num.specs.Cutting.{behind}
use Rattle.deku_reading.specs.Cutting.{IsCutFrom}
use Rattle.deku_reading.proofs.Cutting.{others_high, others_low, others_below, joined_cut}
use Rattle.deku_reading.proofs.items.ChainItems.from_word.Goals as goal
use Rattle.deku_reading.proofs.items.ChainItems.from_word.Goals.{in-Msb0, in-Lsb0}

pub from_word-requires-2-clause-below : goal.from_word-requires-2-clause-below
from_word-requires-2-clause-below g c =
    let first = c.in_ok-item.ensures in
    let n = c.in_ok-item.bits in
    let left = c.args.room - n in
    let all : c.args.room ≡ n + left = omega (arith, first.within) in
    let is : c.match-order.others ≡ behind c.args.order c.args.word n left = elim c.match-order.branch [
      | in-Msb0 w ↦ others_high c.args.order c.match-order.others c.args.word n left w.in-Msb0.is (omega (arith, c.requires.few, first.some)) w.others-is
      | in-Lsb0 w ↦ others_low c.args.order c.match-order.others c.args.word n left w.in-Lsb0.is w.others-is
    ] in
    others_below c.args.order c.match-order.others c.args.word n left is (subst (λ i. c.args.word < 2 ^ i) all c.requires.below)

pub returns : goal.returns
returns g c =
    let first = c.in_ok-item.ensures in
    let n = c.in_ok-item.bits in
    let left = c.args.room - n in
    let is : c.match-order.others ≡ behind c.args.order c.args.word n left = elim c.match-order.branch [
      | in-Msb0 w ↦ others_high c.args.order c.match-order.others c.args.word n left w.in-Msb0.is (omega (arith, c.requires.few, first.some)) w.others-is
      | in-Lsb0 w ↦ others_low c.args.order c.match-order.others c.args.word n left w.in-Lsb0.is w.others-is
    ] in
    let rest = subst (λ k. IsCutFrom (g.B.Items.meaning c.args.ctx.now) c.args.order k left c.in_ok-rest.rest c.in_ok-rest.more) is c.in_ok-rest.ensures in
    joined_cut (λ a b. record { 0 = a; 1 = b }) c.args.order (g.A.DekuReader.meaning c.args.ctx.now) (g.B.Items.meaning c.args.ctx.now) n c.in_ok-rest.more c.args.word c.args.room c.in_ok-item.item c.in_ok-rest.rest first rest
