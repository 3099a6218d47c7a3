use Rattle.std.proofs.Common.{rules, false, not, set, ap, sym, ◌∙◌, arith}
use Rattle.std.proofs.lemmas.List.{set-get_or}
use Rattle.deku_stream.specs.Bits.{byte_bits}
use Rattle.deku_stream.proofs.BitPlaces.{set_bit, clear_bit, same_bit, other_bit}
use Rattle.deku_stream.proofs.bounded.with_bit.Goals as goal

pub overflow_add-result : goal.overflow_add-result
overflow_add-result c =
    let was = sym c.bit_of.ensures ∙ other_bit _ _ c.if-bit_of-bit.false ∙ ap not c.if-bit.true in
    let fits = (set_bit c.args.byte c.args.place (omega arith) c.requires was).fits in search (rules, fits)

pub overflow_sub-result : goal.overflow_sub-result
overflow_sub-result c =
    let was = sym c.bit_of.ensures ∙ other_bit _ _ c.if-bit_of-bit.false ∙ ap not c.if-bit.false in
    (clear_bit c.args.byte c.args.place (omega arith) c.requires was).0

pub returns-then-bit_of-bit : goal.returns-then-bit_of-bit
returns-then-bit_of-bit c =
    sym (set-get_or (byte_bits c.args.byte) c.args.place false)
    ∙ ap (set (byte_bits c.args.byte) c.args.place) (sym c.bit_of.ensures ∙ same_bit _ _ c.if-bit_of-bit.true)

pub returns-then-bit : goal.returns-then-bit
returns-then-bit c =
    let was = sym c.bit_of.ensures ∙ other_bit _ _ c.if-bit_of-bit.false ∙ ap not c.if-bit.true in
    rw (c.if-bit.true) ((set_bit c.args.byte c.args.place (omega arith) c.requires was).bits)

pub returns-else-bit : goal.returns-else-bit
returns-else-bit c =
    let was = sym c.bit_of.ensures ∙ other_bit _ _ c.if-bit_of-bit.false ∙ ap not c.if-bit.false in
    rw (c.if-bit.false) ((clear_bit c.args.byte c.args.place (omega arith) c.requires was).1.bits)
