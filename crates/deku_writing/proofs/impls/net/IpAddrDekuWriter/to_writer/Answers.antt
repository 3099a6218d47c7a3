use Rattle.std.proofs.Common.{rules}
use Rattle.deku_writing.proofs.impls.net.IpAddrDekuWriter.to_writer.Goals as goal

pub returns-in-V4 : goal.returns-in-V4
returns-in-V4 g c = search rules

pub returns-in-V6 : goal.returns-in-V6
returns-in-V6 g c = search rules
