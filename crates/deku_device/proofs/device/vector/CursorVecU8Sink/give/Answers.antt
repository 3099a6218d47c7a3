use Rattle.std.proofs.Common.{arith, rules}
use Rattle.std.proofs.lemmas.Grind.{common_steps}
use Rattle.deku_device.proofs.Wholes.{onward_same, read_onward, nowhere, slice_onward, vector_onward}
use Rattle.deku_device.proofs.device.vector.CursorVecU8Sink.give.Goals as goal

pub returns-clause-err : goal.returns-clause-err
returns-clause-err c = search rules

pub returns-clause-holds : goal.returns-clause-holds
returns-clause-holds c = search rules

pub returns-clause-kept : goal.returns-clause-kept
returns-clause-kept c = search (rules, onward_same, read_onward, nowhere, slice_onward, vector_onward)

pub returns-clause-ok : goal.returns-clause-ok
returns-clause-ok c = grind (arith, common_steps)

pub returns-clause-place : goal.returns-clause-place
returns-clause-place c = search (rules, onward_same, read_onward, nowhere, slice_onward, vector_onward)

pub returns-clause-stays : goal.returns-clause-stays
returns-clause-stays c = search rules

pub returns-clause-written : goal.returns-clause-written
returns-clause-written c = search (rules, onward_same, read_onward, nowhere, slice_onward, vector_onward)

pub returns-in_err-put_over-clause-err : goal.returns-in_err-put_over-clause-err
returns-in_err-put_over-clause-err c = search (rules, onward_same, read_onward, nowhere, slice_onward, vector_onward)

pub returns-in_err-put_over-clause-holds : goal.returns-in_err-put_over-clause-holds
returns-in_err-put_over-clause-holds c = search (rules, onward_same, read_onward, nowhere, slice_onward, vector_onward)

pub returns-in_err-put_over-clause-kept : goal.returns-in_err-put_over-clause-kept
returns-in_err-put_over-clause-kept c = search (rules, onward_same, read_onward, nowhere, slice_onward, vector_onward)

pub returns-in_err-put_over-clause-ok : goal.returns-in_err-put_over-clause-ok
returns-in_err-put_over-clause-ok c = search (rules, onward_same, read_onward, nowhere, slice_onward, vector_onward)

pub returns-in_err-put_over-clause-place : goal.returns-in_err-put_over-clause-place
returns-in_err-put_over-clause-place c = search (rules, onward_same, read_onward, nowhere, slice_onward, vector_onward)

pub returns-in_err-put_over-clause-stays : goal.returns-in_err-put_over-clause-stays
returns-in_err-put_over-clause-stays c = search (rules, onward_same, read_onward, nowhere, slice_onward, vector_onward)

pub returns-in_err-put_over-clause-written : goal.returns-in_err-put_over-clause-written
returns-in_err-put_over-clause-written c = search (rules, onward_same, read_onward, nowhere, slice_onward, vector_onward)
