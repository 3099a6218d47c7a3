use Rattle.std.proofs.Common.{◌≡◌, ◌+◌, ◌*◌, ◌/◌, ◌%◌, false, get_or, ap, sym, ◌∙◌, arith}
use Rattle.deku_stream.specs.Bits.{bits_in}
use Rattle.deku_stream.proofs.BitPlaces.{bits_in-get}
use Rattle.deku_stream.proofs.bounded.bit_at.Goals as goal

pub returns : goal.returns
returns c =
    let at = c.args.at in
    let split : 8 * (at / 8) + at % 8 ≡ at = omega arith in
    c.bit_of.ensures
    ∙ sym (bits_in-get c.args.bytes.now (at / 8) (at % 8) (omega arith) (omega arith))
    ∙ ap (λ n. get_or (bits_in c.args.bytes.now) n false) split
