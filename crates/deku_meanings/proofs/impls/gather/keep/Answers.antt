use Rattle.std.proofs.Common.{rules}
use Rattle.deku_meanings.proofs.impls.gather.keep.Goals as goal

pub returns-clause-kept : goal.returns-clause-kept
returns-clause-kept g c = search rules

pub returns-clause-err : goal.returns-clause-err
returns-clause-err g c = search rules

pub returns-then-after-before-clause-placed : goal.returns-then-after-before-clause-placed
returns-then-after-before-clause-placed g c = search rules

pub returns-then-after-before-clause-kept : goal.returns-then-after-before-clause-kept
returns-then-after-before-clause-kept g c = search rules

pub returns-then-after-before-clause-err : goal.returns-then-after-before-clause-err
returns-then-after-before-clause-err g c = search rules

pub returns-clause-placed : goal.returns-clause-placed
returns-clause-placed g c = search rules
