use Rattle.std.proofs.Common.{◌≡◌, refl}
use Rattle.deku_bits.specs.declared.error.DekuError.TheVariants.{Parse}
use Rattle.deku.specs.Limits.{ReadsBitsOf, MappedBy}
use Rattle.deku_pieces.proofs.Sizes.{sized, unsized}
use Rattle.deku_pieces.proofs.filled_by.read_filled.Goals as goal

pub returns-in-Some-clause-reads : goal.returns-in-Some-clause-reads
returns-in-Some-clause-reads g c =
    sized Parse c.in-Some.bits (λ n. MappedBy (λ xs v. v.items ≡ xs) (ReadsBitsOf n (g.T.DekuReader.meaning tt))) c.in-Some.is (rw c.new_bit_size.ensures at c.from_reader_with_ctx.ensures.reads)

pub returns-in-None-clause-reads : goal.returns-in-None-clause-reads
returns-in-None-clause-reads g c = unsized Parse (λ n. MappedBy (λ xs v. v.items ≡ xs) (ReadsBitsOf n (g.T.DekuReader.meaning tt))) _ refl c.in-None.is
