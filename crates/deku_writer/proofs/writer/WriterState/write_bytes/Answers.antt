use Rattle.std.proofs.Common.{◌<◌, ◌≡◌, ◌^◌, length, ◌∙◌, sym, refl, rules, eqb-true, arith}
use Rattle.deku_stream.specs.declared.ctx.Order.TheVariants.{Msb0}
use Rattle.deku_stream.specs.Bits.{bits_in}
use Rattle.deku_stream.proofs.BitPlaces.{length-bits_in}
use Rattle.deku_writer.proofs.Emits.{write_nothing, write_full, write_done, write_stopped}
use Rattle.deku_writer.proofs.WholeBytes.{whole_count}
use Rattle.deku_writer.proofs.writer.WriterState.write_bytes.Goals as goal

pub returns-then-is_empty-clause-writes : goal.returns-then-is_empty-clause-writes
returns-then-is_empty-clause-writes g c =
    let w : c.self.inside.bits_written < 2 ^ 64 = search rules in
    let bytes = c.args.bytes.now in
    let none : length bytes ≡ 0 = eqb-true _ _ (sym c.if-is_empty.ensures) in
    let bits : length (bits_in bytes) ≡ 0 = omega (arith, none, length-bits_in bytes) in
    rw (← c.self.view_is, c.in_default.is) (write_nothing _ c.self.inside.order Msb0 c.self.inside.held (bits_in bytes) _ bits w)

pub returns-then-bytes-self-clause-writes : goal.returns-then-bytes-self-clause-writes
returns-then-bytes-self-clause-writes g c =
    let h = c.self.inside.held in
    let bytes = c.args.bytes.now in
    rw (← c.self.view_is, c.in_default.is)
    (write_full _ c.self.inside.order Msb0 h (bits_in bytes) _ (length bytes) _ c.self.invariant (whole_count h bytes c.self.invariant) c.if-bytes-self.true refl)

pub returns-in-Ok-clause-writes : goal.returns-in-Ok-clause-writes
returns-in-Ok-clause-writes g c =
    let w : c.self.inside.bits_written < 2 ^ 64 = search rules in
    let h = c.self.inside.held in
    let bytes = c.args.bytes.now in
    rw (← c.self.view_is, c.in_default.is)
    (write_done _ _ c.self.inside.order Msb0 h _ (bits_in bytes) _ (length bytes) c.self.invariant (whole_count h bytes c.self.invariant) c.if-bytes-self.false w c.in-Ok.ensures.pushed)

pub returns-in-Err-clause-writes : goal.returns-in-Err-clause-writes
returns-in-Err-clause-writes g c =
    let w : c.self.inside.bits_written < 2 ^ 64 = search rules in
    let h = c.self.inside.held in
    let bytes = c.args.bytes.now in
    let at_end = c.self-in-Err.view_is ∙ c.stopped.ensures in
    rw (← c.self.view_is, c.in_default.is, at_end)
    (write_stopped _ _ c.self.inside.order Msb0 h (bits_in bytes) _ (length bytes) c.in-Err.kind c.self.invariant (whole_count h bytes c.self.invariant) c.if-bytes-self.false w c.in-Err.ensures.fault)
