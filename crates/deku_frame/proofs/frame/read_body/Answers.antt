use Rattle.std.proofs.Common.{ap₂}
use Rattle.deku_bits.proofs.Handing.{weaker}
use Rattle.deku_frame.specs.Frames.{IsPing, IsData, IsPair, ReadsPing, ReadsData, ReadsPair, ReadsBody}
use Rattle.deku_frame.proofs.frame.read_body.Goals as goal

pub returns-in-1-clause-reads : goal.returns-in-1-clause-reads
returns-in-1-clause-reads g c = weaker ReadsPing (ReadsBody (c.args.id, c.args.version)) _ _ _ _ _ (λ b m. IsPing (ap₂ (λ i v. (i, v)) c.in-1.is c.if-version-ne1.false) m) c.read_ping.ensures.reads

pub returns-in-2-clause-reads : goal.returns-in-2-clause-reads
returns-in-2-clause-reads g c = weaker ReadsData (ReadsBody (c.args.id, c.args.version)) _ _ _ _ _ (λ b m. IsData (ap₂ (λ i v. (i, v)) c.in-2.is c.if-version-ne1.false) m) c.read_data.ensures.reads

pub returns-in-3-clause-reads : goal.returns-in-3-clause-reads
returns-in-3-clause-reads g c = weaker ReadsPair (ReadsBody (c.args.id, c.args.version)) _ _ _ _ _ (λ b m. IsPair (ap₂ (λ i v. (i, v)) c.in-3.is c.if-version-ne1.false) m) c.read_pair.ensures.reads
