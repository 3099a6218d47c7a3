use Rattle.std.proofs.Common.{◌<◌, ◌^◌, ◌∙◌, sym, refl, rules, eqb-true}
use Rattle.deku_writer.proofs.Emits.{write_nothing, write_full, write_done, write_stopped}
use Rattle.deku_writer.proofs.writer.WriterState.write.Goals as goal

pub returns-then-is_empty-clause-writes : goal.returns-then-is_empty-clause-writes
returns-then-is_empty-clause-writes g c =
    let w : c.self.inside.bits_written < 2 ^ 64 = search rules in
    rw (← c.self.view_is, c.in_default.is) (write_nothing _ c.self.inside.order c.args.order c.self.inside.held c.args.bits.now _ (eqb-true _ _ (sym c.if-is_empty.ensures)) w)

pub returns-then-bytes-self-clause-writes : goal.returns-then-bytes-self-clause-writes
returns-then-bytes-self-clause-writes g c =
    let n = c.whole_bytes-bytes.ensures in
    let l = c.len.ensures.length in
    rw (← c.self.view_is, c.in_default.is)
    (write_full _ c.self.inside.order c.args.order c.self.inside.held c.args.bits.now _ c.whole_bytes-bytes.result _ c.self.invariant (rw (← l) n) c.if-bytes-self.true refl)

pub returns-in-Ok-clause-writes : goal.returns-in-Ok-clause-writes
returns-in-Ok-clause-writes g c =
    let w : c.self.inside.bits_written < 2 ^ 64 = search rules in
    let n = c.whole_bytes-bytes.ensures in
    let l = c.len.ensures.length in
    rw (← c.self.view_is, c.in_default.is)
    (write_done _ _ c.self.inside.order c.args.order c.self.inside.held _ c.args.bits.now _ c.whole_bytes-bytes.result c.self.invariant (rw (← l) n) c.if-bytes-self.false w c.in-Ok.ensures.pushed)

pub returns-in-Err-clause-writes : goal.returns-in-Err-clause-writes
returns-in-Err-clause-writes g c =
    let w : c.self.inside.bits_written < 2 ^ 64 = search rules in
    let n = c.whole_bytes-bytes.ensures in
    let l = c.len.ensures.length in
    let at_end = c.self-in-Err.view_is ∙ c.stopped.ensures in
    rw (← c.self.view_is, c.in_default.is, at_end)
    (write_stopped _ _ c.self.inside.order c.args.order c.self.inside.held c.args.bits.now _ c.whole_bytes-bytes.result c.in-Err.kind c.self.invariant (rw (← l) n) c.if-bytes-self.false w c.in-Err.ensures.fault)
