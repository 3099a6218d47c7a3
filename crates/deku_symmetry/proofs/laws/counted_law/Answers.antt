use Rattle.std.proofs.Common.{◌≡◌}
use Rattle.deku.specs.Composing.{WritesEach}
use Rattle.deku.specs.Limits.{ReadsCount, MappedBy}
use Rattle.deku_pieces.specs.Pieces.{OfEach, OfTimes, SameEach}
use Rattle.deku_pieces.proofs.UnderCount.{counted_symmetric, holder_symmetric}
use Rattle.deku_pieces.proofs.Packing.{laid_once}
use Rattle.deku_pieces.proofs.Times.{each_written}
use Rattle.deku_pieces.proofs.Unpacking.{unpacked_back}
use Rattle.deku_symmetry.proofs.laws.counted_law.Goals as goal

pub returns-clause-items : goal.returns-clause-items
returns-clause-items g c = λ x n.
    counted_symmetric (λ v. g.T.Part.pieces v x) g.T.Part.same (λ v. g.T.DekuWriter.meaning v x) (g.T.DekuReader.meaning x) (g.met.T.Symmetric.symmetric x) n

pub returns-clause-there : goal.returns-clause-there
returns-clause-there g c = λ x vs r w.
    laid_once (WritesEach (λ v. g.T.DekuWriter.meaning v x) vs) (OfEach (λ v. g.T.Part.pieces v x) vs)
    (each_written (λ v. g.T.Part.pieces v x) g.T.Part.same (λ v. g.T.DekuWriter.meaning v x) (g.T.DekuReader.meaning x) (g.met.T.Symmetric.symmetric x) vs) r w

pub returns-clause-back : goal.returns-clause-back
returns-clause-back g c = λ x n bytes r w.
    unpacked_back (OfTimes n (λ v. g.T.Part.pieces v x)) (SameEach g.T.Part.same) (WritesEach (λ v. g.T.DekuWriter.meaning v x)) (ReadsCount n (g.T.DekuReader.meaning x))
    (returns-clause-items g c x n) bytes r w

pub returns-clause-vector : goal.returns-clause-vector
returns-clause-vector g c = λ x n bytes r w.
    unpacked_back (λ v. OfTimes n (λ y. g.T.Part.pieces y x) v.items) (λ v w. SameEach g.T.Part.same v.items w.items) (λ v. WritesEach (λ y. g.T.DekuWriter.meaning y x) v.items)
    (MappedBy (λ xs v. v.items ≡ xs) (ReadsCount n (g.T.DekuReader.meaning x)))
    (holder_symmetric (λ v. v.items) (OfTimes n (λ y. g.T.Part.pieces y x)) (SameEach g.T.Part.same) (WritesEach (λ y. g.T.DekuWriter.meaning y x)) (ReadsCount n (g.T.DekuReader.meaning x))
    (returns-clause-items g c x n)) bytes r w
