use Rattle.std.proofs.Common.{rules}
use Rattle.deku_stream.proofs.error.NeedSize.byte_size.Goals as goal

pub returns : goal.returns
returns c = search rules

pub div_ceil-requires : goal.div_ceil-requires
div_ceil-requires c = search rules
