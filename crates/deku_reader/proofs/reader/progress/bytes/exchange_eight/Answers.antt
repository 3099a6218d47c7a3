use Rattle.std.proofs.Common.{rules}
use Rattle.deku_reader.proofs.reader.progress.bytes.exchange_eight.Goals as goal

pub returns-clause-bits : goal.returns-clause-bits
returns-clause-bits c = search rules

pub returns-clause-bytes : goal.returns-clause-bytes
returns-clause-bytes c = search rules

pub returns-clause-len : goal.returns-clause-len
returns-clause-len c = search rules

pub slice_bounds-copy_from_slice-end : goal.slice_bounds-copy_from_slice-end
slice_bounds-copy_from_slice-end c = search rules

pub slice_bounds-copy_from_slice-end-2 : goal.slice_bounds-copy_from_slice-end-2
slice_bounds-copy_from_slice-end-2 c = search rules
