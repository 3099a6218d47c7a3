use Rattle.std.proofs.Common.{rules, sym, subst}
use Rattle.deku_reading.proofs.Judging.{held_as}
use Rattle.deku_reading.proofs.Collecting.{set_of}
use Rattle.deku_reading.proofs.impls.hashset.HashSetDekuReaderTuple2Limit.from_reader_with_ctx.Goals as goal

pub returns-clause-reads : goal.returns-clause-reads
returns-clause-reads g c = held_as _ (λ xs m h. set_of _ g.met.T.Eq.laws g.S.Default.is_default _ xs m c.with_hasher-empty.ensures.empty c.with_hasher-empty.ensures.unique (subst g.S.Default.is_default (sym c.with_hasher-empty.ensures.hasher) c.default.ensures) h) c.gather_under.ensures.reads

pub returns-clause-early : goal.returns-clause-early
returns-clause-early g c = search (rules, c.gather_under.ensures.early)
