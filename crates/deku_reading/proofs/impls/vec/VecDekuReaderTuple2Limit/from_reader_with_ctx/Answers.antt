use Rattle.std.proofs.Common.{rules}
use Rattle.deku_reading.proofs.Judging.{held_as}
use Rattle.deku_reading.proofs.Collecting.{vec_of}
use Rattle.deku_reading.proofs.impls.vec.VecDekuReaderTuple2Limit.from_reader_with_ctx.Goals as goal

pub returns-in-Count-clause-reads : goal.returns-in-Count-clause-reads
returns-in-Count-clause-reads g c = rw c.in-Count.is c.read_counted.ensures.reads

pub returns-in-Count-clause-early : goal.returns-in-Count-clause-early
returns-in-Count-clause-early g c = search (rules, c.read_counted.ensures.early)

pub returns-in_default-clause-reads : goal.returns-in_default-clause-reads
returns-in_default-clause-reads g c = held_as _ (λ xs v h. vec_of _ xs v c.new.ensures.items h) c.gather_under.ensures.reads

pub returns-in_default-clause-early : goal.returns-in_default-clause-early
returns-in_default-clause-early g c = search (rules, c.gather_under.ensures.early)
