use Rattle.std.proofs.Common.{rules}
use Rattle.deku_probe.proofs.probe.FailAt.call.Goals as goal

pub returns-then-self-eq0-clause-inner : goal.returns-then-self-eq0-clause-inner
returns-then-self-eq0-clause-inner g c = search rules

pub returns-then-self-eq0-clause-left : goal.returns-then-self-eq0-clause-left
returns-then-self-eq0-clause-left g c = search rules

pub returns-then-self-eq0-clause-ok : goal.returns-then-self-eq0-clause-ok
returns-then-self-eq0-clause-ok g c = search rules

pub returns-then-self-eq0-clause-err : goal.returns-then-self-eq0-clause-err
returns-then-self-eq0-clause-err g c = search rules

pub returns-then-self-eq0-2-clause-inner : goal.returns-then-self-eq0-2-clause-inner
returns-then-self-eq0-2-clause-inner g c = search rules

pub returns-then-self-eq0-2-clause-left : goal.returns-then-self-eq0-2-clause-left
returns-then-self-eq0-2-clause-left g c = search rules

pub returns-then-self-eq0-2-clause-ok : goal.returns-then-self-eq0-2-clause-ok
returns-then-self-eq0-2-clause-ok g c = search rules

pub returns-then-self-eq0-2-clause-err : goal.returns-then-self-eq0-2-clause-err
returns-then-self-eq0-2-clause-err g c = search rules

pub returns-clause-inner : goal.returns-clause-inner
returns-clause-inner g c = search rules

pub returns-clause-left : goal.returns-clause-left
returns-clause-left g c = search rules

pub returns-clause-ok : goal.returns-clause-ok
returns-clause-ok g c = search rules

pub returns-clause-err : goal.returns-clause-err
returns-clause-err g c = search rules
