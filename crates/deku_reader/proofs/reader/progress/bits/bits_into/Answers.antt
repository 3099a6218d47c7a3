use Rattle.std.proofs.Common.{◌≡◌, ◌+◌, ◌-◌, ◌*◌, length, take, arith, ap, ◌∙◌, sym, subst}
use Rattle.std.proofs.lemmas.List.{length-take}
use Rattle.std.proofs.lemmas.Result.{err_from_is_err_and}
use Rattle.deku_stream.specs.Moving.{Moves}
use Rattle.deku_device.proofs.Failures.{no_fewer_on, more_on}
use Rattle.deku_reader.proofs.Handouts.{part-length, take_written}
use Rattle.deku_reader.proofs.Moving.{moves_more, fewer_behind}
use Rattle.deku_reader.proofs.reader.progress.bits.bits_into.Goals as goal

pub returns-in_err-run_into-clause-ended : goal.returns-in_err-run_into-clause-ended
returns-in_err-run_into-clause-ended g c =
    let known = g.R.Source.known in
    let p = err_from_is_err_and c.from_residual.result c.from_residual.ensures.1 in
    let dst = c.loop-run.dst in
    let from = 128 * c.loop-run.run in
    let to = c.min-to.result in
    let taken = take from dst in
    let part = part-length dst from to (omega arith) in
    rw (p.1, p.2)
    (λ eof. fewer_behind c.args.order c.args.window.now (known c.args.source.now).remaining taken c.loop-run.window (known c.loop-run.source).remaining _ (length c.args.dst.now)
    c.loop-run.invariant.moved (c.in_err-run_into.ensures.ended eof) (omega (arith, part, length-take from dst)))

pub loop-run-preserved : goal.loop-run-preserved
loop-run-preserved g c =
    let known = g.R.Source.known in
    let dst = c.loop-run.dst in
    let from = 128 * c.loop-run.run in
    let to = c.min-to.result in
    let new = c.run_into.new.dst in
    let long : length new ≡ to - from = omega (arith, part-length dst from to (omega arith)) in
    let done = take_written dst new from to 128 (128 * (c.loop-run.run + 1)) (omega arith) (omega arith) long (omega arith) in
    record {
      bound = omega (arith, c.in_ok-run_into.ensures.short);
      short = λ p. c.in_ok-run_into.ensures.short;
      none = λ e. absurd (omega arith);
      moved = subst (λ s. Moves c.args.order c.args.window.now (known c.args.source.now).remaining s c.run_into.new.window (known c.run_into.new.source).remaining) (sym done)
          (moves_more c.args.order c.args.window.now (known c.args.source.now).remaining (take from dst) c.loop-run.window (known c.loop-run.source).remaining
          new c.run_into.new.window (known c.run_into.new.source).remaining c.loop-run.invariant.moved c.in_ok-run_into.ensures.moved);
      still = λ le.
          let window = (c.loop-run.invariant.none (omega arith)).0 in
          c.run_into.ensures.inside (omega (arith, le, part-length dst from to (omega arith), ap length window)) ∙ c.loop-run.invariant.still le;
      kept = no_fewer_on _ _ _ c.loop-run.invariant.kept c.run_into.ensures.kept;
    }

pub returns-in_err-run_into-clause-failed : goal.returns-in_err-run_into-clause-failed
returns-in_err-run_into-clause-failed g c =
    let known = g.R.Source.known in
    let p = err_from_is_err_and c.from_residual.result c.from_residual.ensures.1 in
    rw (p.1, p.2)
    (λ other. more_on (known c.args.source.now).health (known c.loop-run.source).health (known c.run_into.new.source).health c.loop-run.invariant.kept (c.in_err-run_into.ensures.failed other))

pub returns-in_err-run_into-clause-kept : goal.returns-in_err-run_into-clause-kept
returns-in_err-run_into-clause-kept g c = no_fewer_on _ _ _ c.loop-run.invariant.kept c.run_into.ensures.kept
