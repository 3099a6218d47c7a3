use Rattle.std.proofs.Common.{refl, ap, sym, ◌∙◌, arith, None}
use Rattle.deku_bits.proofs.Handing.{unbroken}
use Rattle.deku_bits.specs.Standings.{writer_state}
use Rattle.deku.proofs.Containers.{starts_empty, taken_before, counted_writer, below, before, place_of, items_in, steady, tells, bare_stopped, bare_written}
use Rattle.deku.proofs.container.DekuContainerWrite.to_bits.Goals as goal

pub returns-in_err-write_bits : goal.returns-in_err-write_bits
returns-in_err-write_bits g c =
    let begin = starts_empty _ _ (steady None) _ (ap place_of c.new-writer.ensures.sink ∙ c.new.ensures.position) (ap below c.new-writer.ensures.sink ∙ ap items_in c.new.ensures.inner ∙ c.room_ahead.ensures) c.new-writer.ensures.state in
    let written = c.to_writer.new.writer in
    bare_stopped (g.Self.DekuWriter.meaning c.args.self.now tt) _ (writer_state (tells written.sink) written.state) begin (unbroken refl refl c.in_ok-to_writer.ensures) _ _ _
    c.from_residual-in_err-write_bits.ensures.1 (counted_writer (tells written.sink) written.state _ c.bits_written-count.ensures (omega arith)) (unbroken refl refl c.in_err-write_bits.ensures.writes)

pub returns : goal.returns
returns g c =
    let begin = starts_empty _ _ (steady None) _ (ap place_of c.new-writer.ensures.sink ∙ c.new.ensures.position) (ap below c.new-writer.ensures.sink ∙ ap items_in c.new.ensures.inner ∙ c.room_ahead.ensures) c.new-writer.ensures.state in
    let written = c.to_writer.new.writer in
    let last = c.write_bits.new.self in
    bare_written (g.Self.DekuWriter.meaning c.args.self.now tt) _ (writer_state (tells written.sink) written.state) begin (unbroken refl refl c.in_ok-to_writer.ensures)
    (tells last.sink) last.state c.taken_bytes-bytes.result.items _ (unbroken refl refl c.in_ok-write_bits.ensures.writes)
    (taken_before _ _ _ _ (ap before (sym c.into_inner.ensures)) c.taken_bytes-bytes.ensures) c.leftover-pending.ensures.bits
    _ (rw (sym c.as_slice.ensures.value) c.joined_bits.ensures.bits) c.joined_bits.ensures.memory
