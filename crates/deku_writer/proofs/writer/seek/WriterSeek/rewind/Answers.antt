use Rattle.std.proofs.Common.{rules}
use Rattle.deku_writer.proofs.writer.seek.WriterSeek.rewind.Goals as goal

pub returns-in_err-seek-clause-ok : goal.returns-in_err-seek-clause-ok
returns-in_err-seek-clause-ok g c = search rules

pub returns-in_err-seek-clause-err : goal.returns-in_err-seek-clause-err
returns-in_err-seek-clause-err g c = search rules

pub returns-in_err-seek-clause-place : goal.returns-in_err-seek-clause-place
returns-in_err-seek-clause-place g c = search rules

pub returns-in_err-seek-clause-sink_bytes : goal.returns-in_err-seek-clause-sink_bytes
returns-in_err-seek-clause-sink_bytes g c = search rules

pub returns-in_err-seek-clause-sought : goal.returns-in_err-seek-clause-sought
returns-in_err-seek-clause-sought g c = search rules

pub returns-in_err-seek-clause-stands : goal.returns-in_err-seek-clause-stands
returns-in_err-seek-clause-stands g c = search rules

pub returns-in_err-seek-clause-nowhere : goal.returns-in_err-seek-clause-nowhere
returns-in_err-seek-clause-nowhere g c = search rules

pub returns-in_err-seek-clause-moves : goal.returns-in_err-seek-clause-moves
returns-in_err-seek-clause-moves g c = search rules

pub returns-in_err-seek-clause-bytes : goal.returns-in_err-seek-clause-bytes
returns-in_err-seek-clause-bytes g c = search rules

pub returns-clause-ok : goal.returns-clause-ok
returns-clause-ok g c = search rules

pub returns-clause-err : goal.returns-clause-err
returns-clause-err g c = search rules

pub returns-clause-place : goal.returns-clause-place
returns-clause-place g c = search rules

pub returns-clause-sink_bytes : goal.returns-clause-sink_bytes
returns-clause-sink_bytes g c = search rules

pub returns-clause-sought : goal.returns-clause-sought
returns-clause-sought g c = search rules

pub returns-clause-stands : goal.returns-clause-stands
returns-clause-stands g c = search rules

pub returns-clause-nowhere : goal.returns-clause-nowhere
returns-clause-nowhere g c = search rules

pub returns-clause-moves : goal.returns-clause-moves
returns-clause-moves g c = search rules

pub returns-clause-bytes : goal.returns-clause-bytes
returns-clause-bytes g c = search rules
