use Rattle.std.proofs.Common.{rules}
use Rattle.deku_stream.proofs.EightBytes.{low_first_bytes}
use Rattle.deku_stream.proofs.window.Window.exchange_eight.Goals as goal

pub returns-clause-bits : goal.returns-clause-bits
returns-clause-bits c = rw c.to_le_bytes.ensures c.word_through-word.ensures.bits

pub returns-clause-bytes : goal.returns-clause-bytes
returns-clause-bytes c = rw c.to_le_bytes.ensures (low_first_bytes 0 8 c.word_through-word.result)

pub returns-clause-len : goal.returns-clause-len
returns-clause-len c = search rules
