use Rattle.std.proofs.Common.{◌≡◌, ◌*◌, ◌^◌, ◌%◌, sym, All, arith}
use Rattle.std.proofs.lemmas.Nat.{one_shl}
use Rattle.deku_bits.proofs.Bytes.{IsByte}
use Rattle.deku_plan.proofs.EightCut.{taken_at}
use Rattle.deku_plan.proofs.cut.few_at.Goals as goal

pub returns-clause-number : goal.returns-clause-number
returns-clause-number c =
    let all : All IsByte c.eight_at.result = c.eight_at.ensures.bytes in
    let one : 1 * 2 ^ c.args.width % 18446744073709551616 ≡ 2 ^ c.args.width = one_shl c.args.width 64 (omega (arith, c.requires.few)) in
    rw (one, c.from_be_bytes-word.ensures) (sym (taken_at c.args.width c.args.bit c.args.bytes.now c.eight_at.result (omega arith) all c.eight_at.ensures.front c.requires.few c.requires.there))
