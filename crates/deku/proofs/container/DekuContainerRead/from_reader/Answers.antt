use Rattle.std.proofs.Common.{rules, arith}
use Rattle.std.proofs.lemmas.Result.{err_from_is_err_and}
use Rattle.deku_bits.proofs.Handing.{name_stays, behind}
use Rattle.deku.proofs.Containers.{told_behind}
use Rattle.deku.proofs.container.DekuContainerRead.from_reader.Goals as goal

pub returns-clause-reads : goal.returns-clause-reads
returns-clause-reads g c =
    let made = c.new-reader.ensures in
    let left = c.read_behind-answer.new.reader in
    let before = (g.R.Source.known c.args.input.0.now).health in
    let after = (g.R.Source.known left.source.now).health in
    let h = rw (made.source, made.state) at c.in_ok-answer.ensures.reads in
    let same = name_stays before after _ _ h in
    let tie = c.input-1.given.1 (search (rules, same)) in
    rw (tie, c.into_inner-source.ensures) (record { stands = left.state; reads = behind before after _ _ h; counts = c.bits_read-count.ensures })

pub returns-clause-behind : goal.returns-clause-behind
returns-clause-behind g c =
    let made = c.new-reader.ensures in
    let left = c.read_behind-answer.new.reader in
    let before = (g.R.Source.known c.args.input.0.now).health in
    let after = (g.R.Source.known left.source.now).health in
    let h = rw (made.source, made.state) at c.in_ok-answer.ensures.reads in
    let same = name_stays before after _ _ h in
    let tie = c.input-1.given.1 (search (rules, same)) in
    let early = rw (made.source, made.state) at c.in_ok-answer.ensures.early in
    rw (tie, c.into_inner-source.ensures, c.bits_read-count.ensures) (λ p. told_behind (early p (omega arith)))

pub returns-in_err-answer-clause-reads : goal.returns-in_err-answer-clause-reads
returns-in_err-answer-clause-reads g c =
    let made = c.new-reader.ensures in
    let left = c.read_behind-answer.new.reader in
    let before = (g.R.Source.known c.args.input.0.now).health in
    let after = (g.R.Source.known left.source.now).health in
    let h = rw (made.source, made.state) at c.in_err-answer.ensures.reads in
    let same = name_stays before after _ _ h in
    let tie = c.input-1.given.1 (search (rules, same)) in
    let k = err_from_is_err_and c.from_residual.result c.from_residual.ensures.1 in
    rw (k.1, k.2, tie, c.into_inner-source.ensures) (record { stands = left.state; reads = behind before after _ _ h; counts = tt })
