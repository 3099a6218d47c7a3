use Rattle.std.proofs.Common.{◌≡◌, ◌≤◌, ◌+◌, ◌*◌, ◌-◌, ℕ, ◌∙◌, length, arith}
use Rattle.deku_reader.proofs.Handouts.{part_more, part_behind, part_bytes}
use Rattle.deku_reader.proofs.reader.progress.bytes.exchange_eights.Goals as goal

pub loop-i-preserved : goal.loop-i-preserved
loop-i-preserved c =
    let a : ℕ = 8 * c.loop-i.i in
    let k : ℕ = 8 * c.loop-i.i + 8 - 8 * c.loop-i.i in
    let n : 8 * (c.loop-i.i + 1) ≡ a + k = omega arith in
    let inside : a + k ≤ length c.loop-i.dst = omega arith in
    let long : length c.exchange_eight.new.dst ≡ k = omega arith in record {
      bits = part_more c.args.order c.args.passing.now c.loop-i.passing c.exchange_eight.new.passing c.args.dst.now c.loop-i.dst c.exchange_eight.new.dst a k (8 * (c.loop-i.i + 1)) n inside long
          c.loop-i.invariant.behind c.loop-i.invariant.bits c.exchange_eight.ensures.bits;
      behind = part_behind c.args.dst.now c.loop-i.dst c.exchange_eight.new.dst a k (8 * (c.loop-i.i + 1)) n inside long c.loop-i.invariant.behind;
      bytes = part_bytes c.loop-i.dst c.exchange_eight.new.dst a k (8 * (c.loop-i.i + 1)) n inside long c.loop-i.invariant.bytes c.exchange_eight.ensures.bytes;
      len = c.exchange_eight.ensures.len ∙ c.loop-i.invariant.len;
    }
