use Rattle.std.proofs.Common.{rules}
use Rattle.std.below.core.proofs.iter.Serving.{returning}
use Rattle.deku_meanings.proofs.impls.hashmap.HashMapGatherTuple2.put.Goals as goal

pub returns-in-Ok : goal.returns-in-Ok
returns-in-Ok g c = search (rules, returning)

pub returns : goal.returns
returns g c = search (rules, returning)
