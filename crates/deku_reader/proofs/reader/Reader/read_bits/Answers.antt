use Rattle.std.proofs.Common.{◌≡◌, ◌∙◌, ◌++◌, length, take, drop, arith}
use Rattle.std.proofs.lemmas.Result.{err_from_is_err_and}
use Rattle.std.proofs.lemmas.List.{take_at}
use Rattle.deku_stream.specs.Bits.{shown}
use Rattle.deku_stream.specs.Outcomes.{Reserving}
use Rattle.deku_reader.specs.ReaderCalls.{Transfers, ReadsBits, ReadsVec}
use Rattle.deku_stream.proofs.Handing.{mapped_err, turned_away, no_memory, weaker, mapped_memory_found}
use Rattle.deku_reader.proofs.Moving.{reader_admits}
use Rattle.deku_reader.proofs.reader.Reader.read_bits.Goals as goal

pub returns-in_err-admits-clause-reads : goal.returns-in_err-admits-clause-reads
returns-in_err-admits-clause-reads g c =
    let known = g.R.Source.known c.args.self.now.source in
    let p = err_from_is_err_and c.from_residual.result c.from_residual.ensures.1 in
    let away = reader_admits known.remaining c.args.self.now.state c.args.amt _ c.in_err-admits.ensures in
    rw (p.1, p.2) (mapped_err (shown c.args.order) (turned_away (Reserving (Transfers c.args.order c.args.amt)) c.args.amt _ _ known.health away))

pub returns-in_default-clause-reads : goal.returns-in_default-clause-reads
returns-in_default-clause-reads g c =
    let known = g.R.Source.known c.args.self.now.source in
    let may = reader_admits known.remaining c.args.self.now.state c.args.amt _ c.in_ok-admits.ensures in
    mapped_err (shown c.args.order) (no_memory (Transfers c.args.order c.args.amt) c.args.amt _ known.health may)

pub returns-in_err-read_bits_into-clause-reads : goal.returns-in_err-read_bits_into-clause-reads
returns-in_err-read_bits_into-clause-reads g c =
    let o = c.args.order in
    let n = c.args.amt in
    let p = err_from_is_err_and c.from_residual-in_err-read_bits_into.result c.from_residual-in_err-read_bits_into.ensures.1 in
    let width : length c.as_mut_slice.result.now ≡ n = c.as_mut_slice.ensures.len ∙ c.in-Ok.ensures.len in
    let h = rw width at c.in_err-read_bits_into.ensures.reads in
    rw (p.1, p.2) (weaker (ReadsBits o n) (ReadsVec o n) _ _ _ _ _ (λ b m. mapped_memory_found (shown o) (Transfers o n) n b _ _ _ m) h)

pub returns-clause-reads : goal.returns-clause-reads
returns-clause-reads g c =
    let o = c.args.order in
    let n = c.args.amt in
    let bits = c.read_bits_into.new.dst in
    let width : length c.as_mut_slice.result.now ≡ n = c.as_mut_slice.ensures.len ∙ c.in-Ok.ensures.len in
    let same : length bits ≡ length c.as_mut_slice.result.now = omega arith in
    let whole : take c.in-Ok.bits.len (bits ++ drop (length bits) c.in-Ok.bits.items) ≡ bits =
    take_at bits (drop (length bits) c.in-Ok.bits.items) c.in-Ok.bits.len (same ∙ c.as_mut_slice.ensures.len) in
    let h = rw width at c.in_ok-read_bits_into.ensures.reads in
    rw whole (weaker (ReadsBits o n) (ReadsVec o n) _ _ _ _ _ (λ b m. mapped_memory_found (shown o) (Transfers o n) n b _ _ _ m) h)

pub returns-clause-fetched : goal.returns-clause-fetched
returns-clause-fetched g c =
    let width : length c.as_mut_slice.result.now ≡ c.args.amt = c.as_mut_slice.ensures.len ∙ c.in-Ok.ensures.len in
    rw width at c.in_ok-read_bits_into.ensures.fetched
