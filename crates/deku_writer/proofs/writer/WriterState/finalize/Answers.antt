use Rattle.std.proofs.Common.{◌-◌, ◌%◌, arith}
use Rattle.deku_writer.proofs.Emits.{finalizes, zeros_written}
use Rattle.deku_writer.proofs.writer.WriterState.finalize.Goals as goal

pub returns-clause-writes : goal.returns-clause-writes
returns-clause-writes g c =
    let l = c.len.ensures.length in
    let m = zeros_written c.self.inside.order ((8 - c.len.result) % 8) _ _ _ _ _ (omega arith) c.write_word.ensures.writes in
    let n = rw l at m in
    rw (← c.self.view_is) (finalizes c.self.inside.order c.self.inside.held _ c.self.inside.fault _ _ _ _ c.self.invariant (rw (← c.self.view_is) at n))
