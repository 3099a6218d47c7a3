use Rattle.std.proofs.Common.{length, take, drop, reverse, ap, ◌∙◌, rules}
use Rattle.std.proofs.lemmas.List.{take_at, length-reverse}
use Rattle.deku_stream.proofs.Binary.{length-bits_of}
use Rattle.deku_stream.proofs.Packed.{front_of_byte, front_whole, front_below}
use Rattle.deku_writer.proofs.writer.words.bits_of_group.Goals as goal

pub overflow_cast-group-2 : goal.overflow_cast-group-2
overflow_cast-group-2 c = let b = front_below c.args.n c.args.group c.requires.size c.requires.inside in search rules

pub returns-in-Msb0 : goal.returns-in-Msb0
returns-in-Msb0 c =
    let bits = rw (front_whole c.args.n c.args.group c.requires.size c.requires.inside) at c.bits_of_byte-bits.ensures in
    rw c.in-Msb0.is (ap (take c.args.n) bits ∙ front_of_byte c.args.n c.args.group c.requires.size c.requires.inside)

pub returns-in-Lsb0 : goal.returns-in-Lsb0
returns-in-Lsb0 c =
    let bits = rw (front_whole c.args.n c.args.group c.requires.size c.requires.inside) at c.bits_of_byte-bits.ensures in
    let front = ap (take c.args.n) bits ∙ front_of_byte c.args.n c.args.group c.requires.size c.requires.inside in
    let after = c.reverse.ensures.after ∙ ap reverse front in
    let long = ap length after ∙ length-reverse _ ∙ length-bits_of c.args.n c.args.group in
    rw c.in-Lsb0.is (take_at c.reverse.new.self (drop c.args.n c.bits_of_byte-bits.result) c.args.n long ∙ after)
