use Rattle.std.proofs.Common.{◌≡◌, ◌<◌, ◌/◌, ◌+◌, ◌^◌, ◌∙◌, length, ap, sym, refl, rules}
use Rattle.deku_stream.specs.Bits.{bits_of, facing, shown}
use Rattle.deku_stream.proofs.Binary.{length-bits_of, length-facing}
use Rattle.deku_stream.proofs.Shown.{length-shown}
use Rattle.deku_writer.proofs.Emits.{write_done}
use Rattle.deku_writer.proofs.writer.WriterState.try_write_number.Goals as goal

pub returns-then-laid-clause-writes : goal.returns-then-laid-clause-writes
returns-then-laid-clause-writes g c = λ laid.
    let w : c.self.inside.bits_written < 2 ^ 64 = search rules in
    let h = c.self.inside.held in
    let bits = shown c.args.order (facing c.args.order (bits_of c.args.n c.args.number)) in
    let long : length bits ≡ c.args.n = rw (length-shown, length-facing, length-bits_of) refl in
    let made : c.whole_bytes-made.result ≡ (length h + length bits) / 8 =
    c.whole_bytes-made.ensures ∙ ap (λ x. (x + c.args.n) / 8) c.len.ensures.length ∙ ap (λ x. (length h + x) / 8) (sym long) in
    rw (← c.self.view_is, c.in_default.is)
    (write_done _ _ c.self.inside.order c.args.order h _ bits _ c.whole_bytes-made.result c.self.invariant made c.if-made-self.false w (c.lay_number-laid.ensures.pushed laid))

pub returns-then-laid-clause-order : goal.returns-then-laid-clause-order
returns-then-laid-clause-order g c = λ laid.
    rw (← c.self.view_is, c.in_default.is) (c.lay_number-laid.ensures.order laid)
