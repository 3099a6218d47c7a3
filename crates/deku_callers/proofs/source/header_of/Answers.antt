use Rattle.std.proofs.Common.{rules}
use Rattle.deku_callers.proofs.Headers.{udp_lies}
use Rattle.deku_callers.proofs.Fronts.{front}
use Rattle.deku_callers.proofs.source.header_of.Goals as goal

pub returns-clause-left : goal.returns-clause-left
returns-clause-left g c = front c.symmetric_law.ensures 64 (λ v ps h. (udp_lies v ps h).wide) g.R.Source.known _ _ c.from_reader.result c.from_reader.ensures.reads (search rules) c.from_reader.ensures.behind
