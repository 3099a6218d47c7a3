use Rattle.std.proofs.Common.{◌*◌}
use Rattle.deku_bits.specs.Bits.{bits_of}
use Rattle.deku_bits.specs.declared.ctx.Order.TheVariants.{Msb0}
use Rattle.deku_reading.proofs.ByteRuns.{bytes_appended}
use Rattle.deku_reading.proofs.Early.{took_promptly}
use Rattle.deku_reading.proofs.impls.bytes.read_few_onto.Goals as goal

pub returns-clause-reads : goal.returns-clause-reads
returns-clause-reads g c = λ l high whole.
    let known = g.R.Source.known in
    bytes_appended l high whole c.args.count c.in-Some.number c.args.bytes.now.items _ c.to_be_bytes-eight.result (known c.args.reader.now.source) (known c.try_read_number.new.self.source) _ _
    c.requires.some c.requires.few c.in-Some.ensures.below c.in-Some.ensures.held c.to_be_bytes-eight.ensures c.in-Ok.ensures.items c.in-Some.ensures.takes

pub returns-clause-early : goal.returns-clause-early
returns-clause-early g c =
    let known = g.R.Source.known in
    took_promptly Msb0 (8 * c.args.count) (bits_of (8 * c.args.count) c.in-Some.number) (known c.args.reader.now.source) (known c.try_read_number.new.self.source) _ _
    c.in-Some.ensures.takes c.in-Some.ensures.fetched c.try_read_number.ensures.early
