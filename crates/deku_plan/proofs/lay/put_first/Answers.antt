use Rattle.std.proofs.Common.{length, ap, ◌∙◌, arith}
use Rattle.std.specs.Int.{w64, to_be_bytes}
use Rattle.deku_plan.proofs.Laying.{take_part}
use Rattle.deku_plan.proofs.lay.put_first.Goals as goal

pub returns-then-out-place-ge8-clause-front : goal.returns-then-out-place-ge8-clause-front
returns-then-out-place-ge8-clause-front c = take_part c.args.place c.args.n _ c.args.out.now c.copy_from_slice.new.self (to_be_bytes w64 c.args.word) (c.copy_from_slice.ensures.after ∙ c.to_be_bytes.ensures) (omega arith) (omega (arith, c.requires.few, ap length c.to_be_bytes.ensures))
