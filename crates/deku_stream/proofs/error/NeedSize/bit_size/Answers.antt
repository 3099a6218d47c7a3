use Rattle.std.proofs.Common.{rules}
use Rattle.deku_stream.proofs.error.NeedSize.bit_size.Goals as goal

pub returns : goal.returns
returns c = search rules
