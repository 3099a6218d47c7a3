use Rattle.std.proofs.Common.{rules}
use Rattle.deku_reader.proofs.reader.progress.skips.pop_bits.Goals as goal

pub returns : goal.returns
returns c = (c.take.ensures.group, c.take.ensures.long, c.take.ensures.cut)

pub take-requires : goal.take-requires
take-requires c = search rules
