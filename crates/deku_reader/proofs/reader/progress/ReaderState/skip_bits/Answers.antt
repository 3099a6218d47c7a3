use Rattle.std.proofs.Common.{◌≡◌, ◌-◌, ◌∙◌, min, length, arith}
use Rattle.std.proofs.lemmas.Result.{err_from_is_err_and}
use Rattle.deku_stream.specs.Outcomes.{Quiet, CountsBits}
use Rattle.deku_device.proofs.Failures.{no_fewer_on, more_on}
use Rattle.deku_reader.proofs.Moving.{admitted, needs_none}
use Rattle.deku_reader.specs.ReaderCalls.{Skipping}
use Rattle.deku_reader.proofs.Skips.{skips_early, skips_ok, skips_err, breaks, names_rest, names_none, names_away}
use Rattle.deku_reader.proofs.reader.progress.ReaderState.skip_bits.Goals as goal

pub returns-in-Ok-clause-skips : goal.returns-in-Ok-clause-skips
returns-in-Ok-clause-skips g c =
    let known = g.R.Source.known in
    let p = c.self.inside in
    let n = c.args.amt in
    let inside : c.min-inside.result ≡ min n (length c.self.inside.window) = omega arith in
    let may = admitted p.window p.tally.fault p.tally.count n (rw (← c.self.view_is) at c.in_ok-admits.ensures) in
    let h = skips_ok c.args.order p.window (known c.args.source.now).remaining p.tally.count n c.pop_bits.new.window (known c.pass_bytes.new.source).remaining
    c.drop_bits.new.window (known c.drop_bits.new.source).remaining c.self.invariant may.1 (rw inside at c.pop_bits.ensures) (rw inside at c.in_default.ensures.bytes)
    (rw inside at c.in-Ok.ensures.moved) (rw inside at c.in-Ok.ensures.short) (rw inside at c.in-Ok.ensures.none) in
    rw (← c.self.view_is, may.0, c.add.ensures) (Quiet h (no_fewer_on _ _ _ c.pass_bytes.ensures.kept c.drop_bits.ensures.kept))

pub returns-in-Ok-clause-early : goal.returns-in-Ok-clause-early
returns-in-Ok-clause-early g c =
    let p = c.self.inside in
    let n = c.args.amt in
    let inside : c.min-inside.result ≡ min n (length c.self.inside.window) = omega arith in
    let may = admitted p.window p.tally.fault p.tally.count n (rw (← c.self.view_is) at c.in_ok-admits.ensures) in
    rw (← c.self.view_is, may.0, c.add.ensures)
    (skips_early c.args.order p.window c.pop_bits.new.window c.drop_bits.new.window p.tally.count n c.self.invariant (rw inside at c.pop_bits.ensures)
    (rw inside at c.in-Ok.ensures.short) (λ z. ((rw inside at c.in-Ok.ensures.none) z).0))

pub returns-in-Err-drop_bits-clause-skips : goal.returns-in-Err-drop_bits-clause-skips
returns-in-Err-drop_bits-clause-skips g c =
    let known = g.R.Source.known in
    let p = c.self.inside in
    let n = c.args.amt in
    let inside : c.min-inside.result ≡ min n (length c.self.inside.window) = omega arith in
    let may = admitted p.window p.tally.fault p.tally.count n (rw (← c.self.view_is) at c.in_ok-admits.ensures) in
    let at_end = c.self-in-Err-drop_bits.view_is ∙ c.stopped-in-Err-drop_bits.ensures in
    rw (← c.self.view_is, may.0, c.error-in-Err-drop_bits.ensures, at_end, c.count-in-Err-drop_bits.ensures)
    (skips_err c.args.order p.window (known c.args.source.now).remaining p.tally.count n c.pop_bits.new.window (known c.pass_bytes.new.source).remaining
    (known c.args.source.now).health (known c.drop_bits.new.source).health _ _ c.self.invariant may.1 (rw inside at c.pop_bits.ensures) (rw inside at c.in_default.ensures.bytes)
    (rw inside at c.in-Err-drop_bits.ensures.wanted) (rw inside at c.fault_of-missing.ensures) (rw inside at c.in-Err-drop_bits.ensures.ended)
    (λ no. more_on _ _ _ c.pass_bytes.ensures.kept (c.in-Err-drop_bits.ensures.failed no)) (no_fewer_on _ _ _ c.pass_bytes.ensures.kept c.drop_bits.ensures.kept))

pub returns-in-Err-clause-skips : goal.returns-in-Err-clause-skips
returns-in-Err-clause-skips g c =
    let p = c.self.inside in
    let n = c.args.amt in
    let may = admitted p.window p.tally.fault p.tally.count n (rw (← c.self.view_is) at c.in_ok-admits.ensures) in
    let at_end = c.self-in-Err.view_is ∙ c.stopped.ensures in
    rw (← c.self.view_is, may.0, c.error.ensures, at_end, c.count.ensures) (breaks (CountsBits n (Skipping c.args.order n)) _ p.tally.count _ _ _ c.in-Err.ensures.failed)

pub returns-in-Ok-clause-still : goal.returns-in-Ok-clause-still
returns-in-Ok-clause-still g c =
    let p = c.self.inside in
    let n = c.args.amt in
    let may = admitted p.window p.tally.fault p.tally.count n (rw (← c.self.view_is) at c.in_ok-admits.ensures) in
    let inside : c.min-inside.result ≡ min n (length p.window) = omega arith in
    rw (← c.self.view_is, may.0) (needs_none p.window p.tally.count n _ _ may.1
    (λ le. let none : n - c.min-inside.result ≡ 0 = omega (arith, le, inside) in c.drop_bits.ensures.inside (omega (arith, none)) ∙ c.pass_bytes.ensures.none (omega (arith, none))))

pub returns-in-Err-drop_bits-clause-still : goal.returns-in-Err-drop_bits-clause-still
returns-in-Err-drop_bits-clause-still g c =
    let p = c.self.inside in
    let n = c.args.amt in
    let may = admitted p.window p.tally.fault p.tally.count n (rw (← c.self.view_is) at c.in_ok-admits.ensures) in
    let inside : c.min-inside.result ≡ min n (length p.window) = omega arith in
    rw (← c.self.view_is, may.0) (needs_none p.window p.tally.count n _ _ may.1
    (λ le. let none : n - c.min-inside.result ≡ 0 = omega (arith, le, inside) in c.drop_bits.ensures.inside (omega (arith, none)) ∙ c.pass_bytes.ensures.none (omega (arith, none))))

pub returns-in-Err-clause-still : goal.returns-in-Err-clause-still
returns-in-Err-clause-still g c =
    let p = c.self.inside in
    let n = c.args.amt in
    let may = admitted p.window p.tally.fault p.tally.count n (rw (← c.self.view_is) at c.in_ok-admits.ensures) in
    let inside : c.min-inside.result ≡ min n (length p.window) = omega arith in
    rw (← c.self.view_is, may.0) (needs_none p.window p.tally.count n _ _ may.1 (λ le. c.pass_bytes.ensures.none (omega (arith, le, inside))))

pub returns-in-Ok-clause-named : goal.returns-in-Ok-clause-named
returns-in-Ok-clause-named g c =
    let p = c.self.inside in
    let n = c.args.amt in
    let may = admitted p.window p.tally.fault p.tally.count n (rw (← c.self.view_is) at c.in_ok-admits.ensures) in
    rw (← c.self.view_is, may.0) (λ m e. absurd (cc))

pub returns-in-Err-drop_bits-clause-named : goal.returns-in-Err-drop_bits-clause-named
returns-in-Err-drop_bits-clause-named g c =
    let p = c.self.inside in
    let n = c.args.amt in
    let may = admitted p.window p.tally.fault p.tally.count n (rw (← c.self.view_is) at c.in_ok-admits.ensures) in
    let inside : c.min-inside.result ≡ min n (length p.window) = omega arith in
    rw (← c.self.view_is, may.0, c.error-in-Err-drop_bits.ensures) (names_rest n p.tally.count p.window _ _ (rw inside at c.fault_of-missing.ensures))

pub returns-in-Err-clause-named : goal.returns-in-Err-clause-named
returns-in-Err-clause-named g c =
    let p = c.self.inside in
    let n = c.args.amt in
    let may = admitted p.window p.tally.fault p.tally.count n (rw (← c.self.view_is) at c.in_ok-admits.ensures) in
    rw (← c.self.view_is, may.0, c.error.ensures) (names_none n p.tally.count p.window _)

pub returns-in_err-admits-clause-named : goal.returns-in_err-admits-clause-named
returns-in_err-admits-clause-named g c =
    let p = err_from_is_err_and c.from_residual.result c.from_residual.ensures.1 in
    rw (p.1, p.2) (names_away c.args.amt c.args.self.now _ c.in_err-admits.ensures)
