use Rattle.std.proofs.Common.{arith, rules, length, take, ◌+◌, ◌≡◌, ◌≤◌, ◌∙◌}
use Rattle.std.proofs.lemmas.Grind.{common_steps}
use Rattle.std.proofs.lemmas.List.{length-take}
use Rattle.std.specs.Io.Cursor.{cursor_position, cursor_inner}
use Rattle.deku_device.proofs.Wholes.{vector_laid}
use Rattle.deku_device.proofs.device.vector.CursorVecU8Sink.try_put.Goals as goal

pub returns-clause-written : goal.returns-clause-written
returns-clause-written c = grind (arith, common_steps)

pub returns-clause-place : goal.returns-clause-place
returns-clause-place c = search rules

pub returns-clause-gave : goal.returns-clause-gave
returns-clause-gave c = λ t.
    let inside : cursor_position c.args.self.now ≤ length (cursor_inner c.args.self.now).items = grind (arith, common_steps) in
    let size : length (take c.args.n c.args.eight) ≡ c.args.n = length-take c.args.n c.args.eight ∙ omega arith in
    let place : cursor_position c.set_position.new.self ≡ cursor_position c.args.self.now + length (take c.args.n c.args.eight) = rw size (returns-clause-place c t) in
    vector_laid c.args.self.now c.set_position.new.self (take c.args.n c.args.eight) inside (returns-clause-written c t) place
