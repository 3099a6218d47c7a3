use Rattle.std.proofs.Common.{rules}
use Rattle.deku_writer.proofs.writer.seek.WriterSeek.stream_position.Goals as goal

pub returns-clause-ok : goal.returns-clause-ok
returns-clause-ok g c = search rules

pub returns-clause-err : goal.returns-clause-err
returns-clause-err g c = search rules

pub returns-clause-place : goal.returns-clause-place
returns-clause-place g c = search rules

pub returns-clause-sink_bytes : goal.returns-clause-sink_bytes
returns-clause-sink_bytes g c = search rules

pub returns-clause-sought : goal.returns-clause-sought
returns-clause-sought g c = search rules

pub returns-clause-stands : goal.returns-clause-stands
returns-clause-stands g c = search rules

pub returns-clause-nowhere : goal.returns-clause-nowhere
returns-clause-nowhere g c = search rules

pub returns-clause-stays : goal.returns-clause-stays
returns-clause-stays g c = search rules

pub returns-clause-bytes : goal.returns-clause-bytes
returns-clause-bytes g c = search rules
