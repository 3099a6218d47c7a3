use Rattle.std.proofs.Common.{◌≡◌, ◌*◌, ◌/◌, ◌^◌, take}
use Rattle.deku_stream.specs.Streams.{flow}
use Rattle.deku_writer.specs.Pushing.{low_bytes, Fills}
use Rattle.deku_writer.proofs.writer.words.shift_word.Given as goal

abbrev pub invariant-loop-i : goal.invariant-loop-i
invariant-loop-i l = record {
  fills : Fills l.order l.initial.held l.held (flow l.order (low_bytes (7 * l.i) l.word)) (take (7 * l.i) l.out);
  rest : l.rest ≡ l.word / 2 ^ (56 * l.i);
}
