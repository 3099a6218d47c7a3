use Rattle.std.proofs.Common.{◌-◌, ◌∙◌, length, arith}
use Rattle.std.proofs.lemmas.List.{take_all}
use Rattle.deku_plan.proofs.cut.eight_at.Goals as goal

pub returns-then-bytes-place-ge8-clause-front : goal.returns-then-bytes-place-ge8-clause-front
returns-then-bytes-place-ge8-clause-front c = take_all (length c.args.bytes.now - c.args.place) c.eight_from.result (omega arith) ∙ c.eight_from.ensures.same
