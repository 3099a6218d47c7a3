use Rattle.std.specs.Prelude.{◌≤◌, take, length}
use Rattle.deku_writing.specs.Composing.{WritesEach}
use Rattle.deku_writing.specs.Words.{IsWordOf}
use Rattle.deku_writing.proofs.impls.array.word_of_items.Given as goal

abbrev pub invariant-loop-place : goal.invariant-loop-place
invariant-loop-place g l = record {
  far : IsWordOf (WritesEach (λ x. g.T.DekuWriter.meaning x l.ctx) (take l.place l.items)) l.order l.word;
  few : l.place ≤ length l.items;
}
