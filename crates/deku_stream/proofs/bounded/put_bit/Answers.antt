use Rattle.std.proofs.Common.{◌≡◌, ◌+◌, ◌*◌, ◌/◌, ◌%◌, set, ap, ◌∙◌, arith}
use Rattle.deku_stream.specs.Bits.{bits_in}
use Rattle.deku_stream.proofs.BitPlaces.{bits_in-set}
use Rattle.deku_stream.proofs.bounded.put_bit.Goals as goal

pub returns-clause-bits : goal.returns-clause-bits
returns-clause-bits c =
    let at = c.args.at in
    let split : 8 * (at / 8) + at % 8 ≡ at = omega arith in
    bits_in-set c.args.bytes.now (at / 8) (at % 8) c.with_bit.result c.args.bit (omega arith) (omega arith) c.with_bit.ensures
    ∙ ap (λ n. set (bits_in c.args.bytes.now) n c.args.bit) split
