use Rattle.std.proofs.Common.{rules}
use Rattle.deku_reader.proofs.reader.seek.count_for.Goals as goal

pub returns-then-offset-le0-clause-some : goal.returns-then-offset-le0-clause-some
returns-then-offset-le0-clause-some c = search rules

pub returns-then-offset-le0-clause-none : goal.returns-then-offset-le0-clause-none
returns-then-offset-le0-clause-none c = search rules

pub returns-in_err-more-in-Current-clause-some : goal.returns-in_err-more-in-Current-clause-some
returns-in_err-more-in-Current-clause-some c = search rules

pub returns-in_err-more-in-Current-clause-none : goal.returns-in_err-more-in-Current-clause-none
returns-in_err-more-in-Current-clause-none c = search rules

pub returns-in-Start-clause-some : goal.returns-in-Start-clause-some
returns-in-Start-clause-some c = search rules

pub returns-in-Start-clause-none : goal.returns-in-Start-clause-none
returns-in-Start-clause-none c = search rules

pub returns-in_ok-more-in-Current-clause-some : goal.returns-in_ok-more-in-Current-clause-some
returns-in_ok-more-in-Current-clause-some c = search rules

pub returns-in_ok-more-in-Current-clause-none : goal.returns-in_ok-more-in-Current-clause-none
returns-in_ok-more-in-Current-clause-none c = search rules

pub returns-in-Start-eq0-clause-some : goal.returns-in-Start-eq0-clause-some
returns-in-Start-eq0-clause-some c = search rules

pub returns-in-Start-eq0-clause-none : goal.returns-in-Start-eq0-clause-none
returns-in-Start-eq0-clause-none c = search rules

pub returns-in-Start-eq0-2-clause-some : goal.returns-in-Start-eq0-2-clause-some
returns-in-Start-eq0-2-clause-some c = search rules

pub returns-in-Start-eq0-2-clause-none : goal.returns-in-Start-eq0-2-clause-none
returns-in-Start-eq0-2-clause-none c = search rules

pub overflow_cast-offset : goal.overflow_cast-offset
overflow_cast-offset c = search rules
