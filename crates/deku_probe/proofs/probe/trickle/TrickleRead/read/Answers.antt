use Rattle.std.proofs.Common.{rules}
use Rattle.deku_probe.proofs.probe.trickle.TrickleRead.read.Goals as goal

pub returns-clause-bound : goal.returns-clause-bound
returns-clause-bound c = search rules

pub returns-clause-bytes : goal.returns-clause-bytes
returns-clause-bytes c = search rules

pub returns-clause-one : goal.returns-clause-one
returns-clause-one c = search rules

pub returns-clause-ok : goal.returns-clause-ok
returns-clause-ok c = search rules

pub slice_bounds-read-end : goal.slice_bounds-read-end
slice_bounds-read-end c = search rules

pub slice_bounds-read-end-2 : goal.slice_bounds-read-end-2
slice_bounds-read-end-2 c = search rules
