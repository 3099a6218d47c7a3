use Rattle.std.proofs.Common.{◌≡◌, ◌<◌, ◌≤◌, ◌/◌, ◌%◌, ◌^◌, ◌∙◌, arith, rules, sym, take_all}
use Rattle.std.proofs.Math.Pow.{pow_mono}
use Rattle.deku_writer.proofs.WordsWritten.{last_below, rest_more, bits_more, bits_all}
use Rattle.deku_writer.proofs.writer.words.bits_of_word.Goals as goal

pub loop-i-preserved : goal.loop-i-preserved
loop-i-preserved c = record {
  bits = bits_more c.args.order c.loop-i.i c.args.word c.loop-i.rest c.loop-i.bits c.copy_from_slice.new.self _ (search rules) c.loop-i.invariant.rest
      (c.copy_from_slice.ensures.after ∙ sym (take_all 8 c.bits_of_group.result (search rules)) ∙ c.bits_of_group.ensures) c.loop-i.invariant.bits;
  rest = rest_more c.args.word c.loop-i.rest c.loop-i.i c.loop-i.invariant.rest;
}

pub overflow_cast-rest-2 : goal.overflow_cast-rest-2
overflow_cast-rest-2 c =
    let e : c.loop-i.i ≡ c.args.n / 8 = omega arith in
    let b : c.loop-i.rest < 2 ^ (c.args.n % 8) = rw (c.loop-i.invariant.rest, e) (last_below c.args.n c.args.word c.requires.inside) in
    let p : 2 ^ (c.args.n % 8) ≤ 2 ^ 8 = pow_mono {i = c.args.n % 8} {j = 8} (omega arith) in
    let k : c.loop-i.rest < 2 ^ 8 = omega arith in
    search rules

pub bits_of_group-last-requires-clause-inside : goal.bits_of_group-last-requires-clause-inside
bits_of_group-last-requires-clause-inside c =
    let e : c.loop-i.i ≡ c.args.n / 8 = omega arith in
    rw (c.loop-i.invariant.rest, e) (last_below c.args.n c.args.word c.requires.inside)

pub returns : goal.returns
returns c =
    let e : c.loop-i.i ≡ c.args.n / 8 = omega arith in
    let rest = rw e at c.loop-i.invariant.rest in
    let bits = rw e at c.loop-i.invariant.bits in
    bits_all c.args.order c.args.n c.args.word c.loop-i.rest c.loop-i.bits c.copy_from_slice-2.new.self _ (search rules) rest
    (c.copy_from_slice-2.ensures.after ∙ c.bits_of_group-last.ensures) bits
