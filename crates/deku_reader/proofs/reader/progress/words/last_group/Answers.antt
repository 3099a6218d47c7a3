use Rattle.std.proofs.Common.{◌-◌, arith}
use Rattle.deku_reader.proofs.WordsRead.{gives_below, last_across}
use Rattle.deku_reader.proofs.reader.progress.words.last_group.Goals as goal

pub joined-requires-clause-first : goal.joined-requires-clause-first
joined-requires-clause-first c = gives_below c.args.order c.min-inside.result c.take-first.result c.args.window.now c.take-first.new.self c.take-first.ensures

pub joined-requires-clause-second : goal.joined-requires-clause-second
joined-requires-clause-second c =
    gives_below c.args.order (c.args.count - c.min-inside.result) c.take-second.result c.of_byte.result c.take-second.new.self c.take-second.ensures

pub returns : goal.returns
returns c =
    last_across c.args.order c.args.window.now c.take-first.new.self c.take-second.new.self c.args.byte c.args.count c.min-inside.result c.take-first.result c.take-second.result c.joined.result
    (omega arith) (omega arith) (omega arith) c.take-first.ensures (rw c.of_byte.ensures.bits at c.take-second.ensures) c.joined.ensures.high c.joined.ensures.low
