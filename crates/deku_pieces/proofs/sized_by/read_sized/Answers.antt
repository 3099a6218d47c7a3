use Rattle.std.proofs.Common.{refl}
use Rattle.deku_bits.specs.declared.error.DekuError.TheVariants.{Parse}
use Rattle.deku_pieces.specs.Sizes.{ReadsExactly}
use Rattle.deku_pieces.proofs.Sizes.{sized, unsized}
use Rattle.deku_pieces.proofs.sized_by.read_sized.Goals as goal

pub returns-in-Some-clause-reads : goal.returns-in-Some-clause-reads
returns-in-Some-clause-reads g c = sized Parse c.in-Some.bits (λ n. ReadsExactly n (g.T.DekuReader.meaning tt)) c.in-Some.is c.read_exactly.ensures.reads

pub returns-in-None-clause-reads : goal.returns-in-None-clause-reads
returns-in-None-clause-reads g c = unsized Parse (λ n. ReadsExactly n (g.T.DekuReader.meaning tt)) _ refl c.in-None.is
