use Rattle.std.proofs.Common.{◌≡◌, refl, rules}
use Rattle.deku_writing.proofs.WordsJoined.{one_written}
use Rattle.deku_writing.proofs.impls.array.ArrayDekuWriter.to_writer.Goals as goal

pub returns-then-try_write_word : goal.returns-then-try_write_word
returns-then-try_write_word g c = one_written g.W.Sink.known _ _ _ _ c.to_word-high.ensures c.to_word-low.ensures (c.if-try_write_word.ensures.writes refl)

pub returns : goal.returns
returns g c =
    let same : c.try_write_word.new.writer ≡ c.args.writer.now = search rules in
    rw same at (rw c.as_slice.ensures at c.to_writer.ensures)
