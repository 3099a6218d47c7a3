use Rattle.deku.proofs.Causes.{from_bytes, from_reader, to_bytes, to_slice, to_bits}
use Rattle.deku.proofs.laws.whole_cause_law.Goals as goal

pub returns-clause-from_bytes : goal.returns-clause-from_bytes
returns-clause-from_bytes g c n bytes k f p = from_bytes n _ bytes k f p

pub returns-clause-from_reader : goal.returns-clause-from_reader
returns-clause-from_reader g c n old new k f p = from_reader _ n _ old new k f p

pub returns-clause-to_bytes : goal.returns-clause-to_bytes
returns-clause-to_bytes g c v k f p = to_bytes _ k f p

pub returns-clause-to_slice : goal.returns-clause-to_slice
returns-clause-to_slice g c v old new k f p = to_slice _ old new k f p

pub returns-clause-to_bits : goal.returns-clause-to_bits
returns-clause-to_bits g c v k f p = to_bits (g.T.DekuWriter.meaning v tt) k f p
