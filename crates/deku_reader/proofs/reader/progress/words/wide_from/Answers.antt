use Rattle.std.proofs.Common.{◌-◌, arith}
use Rattle.std.proofs.lemmas.Result.{err_from_is_err_and}
use Rattle.deku_device.proofs.Failures.{no_fewer_on, more_on}
use Rattle.deku_reader.proofs.WordsRead.{word_behind_eight, fewer_behind_eight}
use Rattle.deku_reader.proofs.reader.progress.words.wide_from.Goals as goal

pub returns-clause-moved : goal.returns-clause-moved
returns-clause-moved g c =
    let known = g.R.Source.known in
    rw c.from_le_bytes-first.ensures
    ((word_behind_eight c.args.order c.args.window.now c.exchange_eight.new.self c.rest_from.new.window (known c.args.source.now).remaining (known c.try_take.new.self).remaining (known c.rest_from.new.source).remaining
    c.args.count (c.args.count - 64) c.in_ok-behind.behind c.in-Some.eight c.exchange_eight.result (omega arith) (omega arith) (omega arith) (omega arith) c.in-Some.ensures.bytes c.exchange_eight.ensures.bits c.exchange_eight.ensures.bytes
    c.in_ok-behind.ensures.moved).1)

pub returns-clause-kept : goal.returns-clause-kept
returns-clause-kept g c = no_fewer_on _ _ _ c.try_take.ensures.kept c.rest_from.ensures.kept

pub returns-in_err-behind-clause-ended : goal.returns-in_err-behind-clause-ended
returns-in_err-behind-clause-ended g c =
    let known = g.R.Source.known in
    let p = err_from_is_err_and c.from_residual.result c.from_residual.ensures.1 in
    rw (p.1, p.2) (λ eof.
    (fewer_behind_eight c.args.order c.args.window.now c.exchange_eight.new.self (known c.args.source.now).remaining (known c.try_take.new.self).remaining c.args.count (c.args.count - 64) c.in-Some.eight c.exchange_eight.result
    (omega arith) (omega arith) (omega arith) c.in-Some.ensures.bytes c.exchange_eight.ensures.bits (c.in_err-behind.ensures.ended eof)))

pub returns-in_err-behind-clause-failed : goal.returns-in_err-behind-clause-failed
returns-in_err-behind-clause-failed g c =
    let p = err_from_is_err_and c.from_residual.result c.from_residual.ensures.1 in
    rw (p.1, p.2) (λ e. more_on _ _ _ c.try_take.ensures.kept (c.in_err-behind.ensures.failed e))

pub returns-in_err-behind-clause-kept : goal.returns-in_err-behind-clause-kept
returns-in_err-behind-clause-kept g c = no_fewer_on _ _ _ c.try_take.ensures.kept c.rest_from.ensures.kept
