use Rattle.std.proofs.Common.{arith, rules}
use Rattle.std.proofs.lemmas.Grind.{common_steps}
use Rattle.deku_device.proofs.device.slice.CursorRefMutSliceU8Sink.try_put.Goals as goal

pub returns-then-not-has_eight-clause-stays : goal.returns-then-not-has_eight-clause-stays
returns-then-not-has_eight-clause-stays c = search rules

pub returns-clause-gave : goal.returns-clause-gave
returns-clause-gave c = grind (arith, common_steps)

pub returns-clause-written : goal.returns-clause-written
returns-clause-written c = search rules

pub returns-clause-place : goal.returns-clause-place
returns-clause-place c = search rules

pub returns-clause-room : goal.returns-clause-room
returns-clause-room c = search rules

pub returns-then-not-has_eight-clause-gave : goal.returns-then-not-has_eight-clause-gave
returns-then-not-has_eight-clause-gave c = search rules

pub returns-then-not-has_eight-clause-written : goal.returns-then-not-has_eight-clause-written
returns-then-not-has_eight-clause-written c = search rules

pub returns-then-not-has_eight-clause-place : goal.returns-then-not-has_eight-clause-place
returns-then-not-has_eight-clause-place c = search rules

pub returns-then-not-has_eight-clause-room : goal.returns-then-not-has_eight-clause-room
returns-then-not-has_eight-clause-room c = search rules

pub slice_bounds-lay_over-end : goal.slice_bounds-lay_over-end
slice_bounds-lay_over-end c = search rules

pub lay_over-requires-clause-few : goal.lay_over-requires-clause-few
lay_over-requires-clause-few c = search rules

pub lay_over-requires-clause-room : goal.lay_over-requires-clause-room
lay_over-requires-clause-room c = search rules

pub overflow_add-place : goal.overflow_add-place
overflow_add-place c = search rules

pub returns-clause-stays : goal.returns-clause-stays
returns-clause-stays c = search rules
