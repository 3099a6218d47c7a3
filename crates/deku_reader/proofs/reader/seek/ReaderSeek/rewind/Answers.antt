use Rattle.std.proofs.Common.{rules}
use Rattle.deku_reader.proofs.reader.seek.ReaderSeek.rewind.Goals as goal

pub returns-in_err-seek-clause-ok : goal.returns-in_err-seek-clause-ok
returns-in_err-seek-clause-ok g c = search rules

pub returns-in_err-seek-clause-err : goal.returns-in_err-seek-clause-err
returns-in_err-seek-clause-err g c = search rules

pub returns-in_err-seek-clause-place : goal.returns-in_err-seek-clause-place
returns-in_err-seek-clause-place g c = search rules

pub returns-in_err-seek-clause-source_bytes : goal.returns-in_err-seek-clause-source_bytes
returns-in_err-seek-clause-source_bytes g c = search rules

pub returns-in_err-seek-clause-sought : goal.returns-in_err-seek-clause-sought
returns-in_err-seek-clause-sought g c = search rules

pub returns-in_err-seek-clause-remaining : goal.returns-in_err-seek-clause-remaining
returns-in_err-seek-clause-remaining g c = search rules

pub returns-in_err-seek-clause-nowhere : goal.returns-in_err-seek-clause-nowhere
returns-in_err-seek-clause-nowhere g c = search rules

pub returns-in_err-seek-clause-alloc : goal.returns-in_err-seek-clause-alloc
returns-in_err-seek-clause-alloc g c = search rules

pub returns-in_err-seek-clause-moves : goal.returns-in_err-seek-clause-moves
returns-in_err-seek-clause-moves g c = search rules

pub returns-in_err-seek-clause-bytes : goal.returns-in_err-seek-clause-bytes
returns-in_err-seek-clause-bytes g c = search rules

pub returns-clause-ok : goal.returns-clause-ok
returns-clause-ok g c = search rules

pub returns-clause-err : goal.returns-clause-err
returns-clause-err g c = search rules

pub returns-clause-place : goal.returns-clause-place
returns-clause-place g c = search rules

pub returns-clause-source_bytes : goal.returns-clause-source_bytes
returns-clause-source_bytes g c = search rules

pub returns-clause-sought : goal.returns-clause-sought
returns-clause-sought g c = search rules

pub returns-clause-remaining : goal.returns-clause-remaining
returns-clause-remaining g c = search rules

pub returns-clause-nowhere : goal.returns-clause-nowhere
returns-clause-nowhere g c = search rules

pub returns-clause-alloc : goal.returns-clause-alloc
returns-clause-alloc g c = search rules

pub returns-clause-moves : goal.returns-clause-moves
returns-clause-moves g c = search rules

pub returns-clause-bytes : goal.returns-clause-bytes
returns-clause-bytes g c = search rules
