use Rattle.std.proofs.Common.{arith, rules}
use Rattle.std.proofs.lemmas.Grind.{common_steps}
use Rattle.deku_device.proofs.device.slice.lay_over.Goals as goal

pub returns-in-1 : goal.returns-in-1
returns-in-1 c = search rules

pub returns-in-2 : goal.returns-in-2
returns-in-2 c = search rules

pub returns-in-3 : goal.returns-in-3
returns-in-3 c = search rules

pub returns-in-4 : goal.returns-in-4
returns-in-4 c = search rules

pub returns-in-5 : goal.returns-in-5
returns-in-5 c = search rules

pub returns-in-6 : goal.returns-in-6
returns-in-6 c = search rules

pub returns-in-7 : goal.returns-in-7
returns-in-7 c = search rules

pub returns-in-8 : goal.returns-in-8
returns-in-8 c = search rules

pub returns-in_default : goal.returns-in_default
returns-in_default c = grind (arith, common_steps)

pub slice_bounds-lay_first-end : goal.slice_bounds-lay_first-end
slice_bounds-lay_first-end c = search rules

pub lay_first-requires-clause-few : goal.lay_first-requires-clause-few
lay_first-requires-clause-few c = search rules

pub lay_first-requires-clause-room : goal.lay_first-requires-clause-room
lay_first-requires-clause-room c = search rules

pub slice_bounds-lay_first-end-in-2 : goal.slice_bounds-lay_first-end-in-2
slice_bounds-lay_first-end-in-2 c = search rules

pub lay_first-requires-in-2-clause-few : goal.lay_first-requires-in-2-clause-few
lay_first-requires-in-2-clause-few c = search rules

pub lay_first-requires-in-2-clause-room : goal.lay_first-requires-in-2-clause-room
lay_first-requires-in-2-clause-room c = search rules

pub slice_bounds-lay_first-end-in-3 : goal.slice_bounds-lay_first-end-in-3
slice_bounds-lay_first-end-in-3 c = search rules

pub lay_first-requires-in-3-clause-few : goal.lay_first-requires-in-3-clause-few
lay_first-requires-in-3-clause-few c = search rules

pub lay_first-requires-in-3-clause-room : goal.lay_first-requires-in-3-clause-room
lay_first-requires-in-3-clause-room c = search rules

pub slice_bounds-lay_first-end-in-4 : goal.slice_bounds-lay_first-end-in-4
slice_bounds-lay_first-end-in-4 c = search rules

pub lay_first-requires-in-4-clause-few : goal.lay_first-requires-in-4-clause-few
lay_first-requires-in-4-clause-few c = search rules

pub lay_first-requires-in-4-clause-room : goal.lay_first-requires-in-4-clause-room
lay_first-requires-in-4-clause-room c = search rules

pub slice_bounds-lay_first-end-in-5 : goal.slice_bounds-lay_first-end-in-5
slice_bounds-lay_first-end-in-5 c = search rules

pub lay_first-requires-in-5-clause-few : goal.lay_first-requires-in-5-clause-few
lay_first-requires-in-5-clause-few c = search rules

pub lay_first-requires-in-5-clause-room : goal.lay_first-requires-in-5-clause-room
lay_first-requires-in-5-clause-room c = search rules

pub slice_bounds-lay_first-end-in-6 : goal.slice_bounds-lay_first-end-in-6
slice_bounds-lay_first-end-in-6 c = search rules

pub lay_first-requires-in-6-clause-few : goal.lay_first-requires-in-6-clause-few
lay_first-requires-in-6-clause-few c = search rules

pub lay_first-requires-in-6-clause-room : goal.lay_first-requires-in-6-clause-room
lay_first-requires-in-6-clause-room c = search rules

pub slice_bounds-lay_first-end-in-7 : goal.slice_bounds-lay_first-end-in-7
slice_bounds-lay_first-end-in-7 c = search rules

pub lay_first-requires-in-7-clause-few : goal.lay_first-requires-in-7-clause-few
lay_first-requires-in-7-clause-few c = search rules

pub lay_first-requires-in-7-clause-room : goal.lay_first-requires-in-7-clause-room
lay_first-requires-in-7-clause-room c = search rules

pub slice_bounds-lay_first-end-in-8 : goal.slice_bounds-lay_first-end-in-8
slice_bounds-lay_first-end-in-8 c = search rules

pub lay_first-requires-in-8-clause-few : goal.lay_first-requires-in-8-clause-few
lay_first-requires-in-8-clause-few c = search rules

pub lay_first-requires-in-8-clause-room : goal.lay_first-requires-in-8-clause-room
lay_first-requires-in-8-clause-room c = search rules
