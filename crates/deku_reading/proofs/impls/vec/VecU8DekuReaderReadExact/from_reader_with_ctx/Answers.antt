use Rattle.deku_bits.specs.declared.ctx.Order.TheVariants.{Lsb0}
use Rattle.deku_reading.proofs.Bytes.{bytes_seen}
use Rattle.deku_reading.proofs.Early.{then_ok, vec_promptly}
use Rattle.deku_reading.proofs.impls.vec.VecU8DekuReaderReadExact.from_reader_with_ctx.Goals as goal

pub returns-clause-reads : goal.returns-clause-reads
returns-clause-reads g c = bytes_seen Lsb0 c.args.ctx.0 c.read_bytes_vec.result c.read_bytes_vec.ensures.reads

pub returns-clause-early : goal.returns-clause-early
returns-clause-early g c =
    then_ok c.read_bytes_vec.result (λ p _. p) (vec_promptly Lsb0 c.args.ctx.0 c.read_bytes_vec.result _ _ c.read_bytes_vec.ensures.reads c.read_bytes_vec.ensures.fetched c.read_bytes_vec.ensures.early)
