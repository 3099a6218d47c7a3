use Rattle.std.proofs.Common.{rules}
use Rattle.deku_fields.proofs.program.asked.Goals as goal

pub slice_bounds-specs-count : goal.slice_bounds-specs-count
slice_bounds-specs-count g c = search rules

pub bounds-args-0 : goal.bounds-args-0
bounds-args-0 g c = search rules

pub slice_bounds-specs-start : goal.slice_bounds-specs-start
slice_bounds-specs-start g c = search rules

pub slice_bounds-specs-end : goal.slice_bounds-specs-end
slice_bounds-specs-end g c = search rules

pub returns-in_default-as_str-clause-known : goal.returns-in_default-as_str-clause-known
returns-in_default-as_str-clause-known g c = search rules

pub returns-in-write-clause-unread : goal.returns-in-write-clause-unread
returns-in-write-clause-unread g c = search rules
