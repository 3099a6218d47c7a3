use Rattle.std.proofs.Common.{rules}
use Rattle.deku_formats.proofs.checksum.is_intact.Goals as goal

pub returns : goal.returns
returns c = search rules
