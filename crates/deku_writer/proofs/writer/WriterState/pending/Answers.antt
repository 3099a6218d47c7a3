use Rattle.std.proofs.Common.{rules}
use Rattle.deku_writer.proofs.writer.WriterState.pending.Goals as goal

pub returns-then-is_some-clause-bits : goal.returns-then-is_some-clause-bits
returns-then-is_some-clause-bits c = search rules

pub returns-clause-bits : goal.returns-clause-bits
returns-clause-bits c = search rules

pub returns-clause-few : goal.returns-clause-few
returns-clause-few c = search rules

pub returns-clause-nothing : goal.returns-clause-nothing
returns-clause-nothing c = search rules

pub returns-then-is_some-clause-few : goal.returns-then-is_some-clause-few
returns-then-is_some-clause-few c = search rules

pub returns-then-is_some-clause-nothing : goal.returns-then-is_some-clause-nothing
returns-then-is_some-clause-nothing c = search rules
