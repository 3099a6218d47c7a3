use Rattle.std.proofs.Common.{rules}
use Rattle.deku_writing.proofs.words.try_write_word.Goals as goal
