use Rattle.std.proofs.Common.{◌≡◌, ◌*◌, ◌/◌, ◌^◌, take}
use Rattle.deku_stream.specs.Streams.{flow}
use Rattle.deku_writer.specs.Pushing.{low_bytes}
use Rattle.deku_writer.proofs.writer.words.bits_of_word.Given as goal

abbrev pub invariant-loop-i : goal.invariant-loop-i
invariant-loop-i l = record {
  bits : take (8 * l.i) l.bits ≡ flow l.order (low_bytes l.i l.word);
  rest : l.rest ≡ l.word / 2 ^ (8 * l.i);
}
