use Rattle.std.proofs.Common.{rules, sym, subst}
use Rattle.deku_reading.proofs.Judging.{held_as}
use Rattle.deku_reading.proofs.Collecting.{map_of}
use Rattle.deku_reading.proofs.impls.hashmap.HashMapDekuReaderTuple2LimitTuple2.from_reader_with_ctx.Goals as goal

pub returns-clause-reads : goal.returns-clause-reads
returns-clause-reads g c = held_as _ (λ xs m h. map_of _ g.S.Default.is_default _ xs m c.with_hasher-empty.ensures.empty c.with_hasher-empty.ensures.unique (subst g.S.Default.is_default (sym c.with_hasher-empty.ensures.hasher) c.default.ensures) h) c.gather_under.ensures.reads

pub returns-clause-early : goal.returns-clause-early
returns-clause-early g c = search (rules, c.gather_under.ensures.early)
