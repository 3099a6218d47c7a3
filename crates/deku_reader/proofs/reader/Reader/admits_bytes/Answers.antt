use Rattle.std.proofs.Common.{rules}
use Rattle.deku_reader.proofs.reader.Reader.admits_bytes.Goals as goal

pub returns : goal.returns
returns g c = search rules
