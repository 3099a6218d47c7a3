use Rattle.std.proofs.Common.{◌∙◌, take, ap, arith, rules}
use Rattle.deku_stream.proofs.Binary.{length-bits_of}
use Rattle.deku_stream.proofs.Packed.{front_of_byte, front_whole, front_below}
use Rattle.deku_writer.proofs.writer.held.Held.bits.Goals as goal

pub overflow_cast-self-inside-3 : goal.overflow_cast-self-inside-3
overflow_cast-self-inside-3 c = let b = front_below c.self.inside.len c.self.inside.number (omega (arith, c.self.invariant.0)) c.self.invariant.1 in search rules

pub returns : goal.returns
returns c =
    let whole = front_whole c.self.inside.len c.self.inside.number (omega (arith, c.self.invariant.0)) c.self.invariant.1 in
    let bits = rw whole at c.bits_of_byte.ensures in
    rw (← c.self.view_is, length-bits_of) (ap (take c.self.inside.len) bits ∙ front_of_byte c.self.inside.len c.self.inside.number (omega (arith, c.self.invariant.0)) c.self.invariant.1)

pub overflow_sub-self-inside : goal.overflow_sub-self-inside
overflow_sub-self-inside c = search rules

pub overflow_cast-self-inside-2 : goal.overflow_cast-self-inside-2
overflow_cast-self-inside-2 c = search rules

pub overflow_shl-self-inside : goal.overflow_shl-self-inside
overflow_shl-self-inside c = search rules
