use Rattle.std.proofs.Common.{◌≡◌, inr, subst, rules}
use Rattle.std.proofs.lemmas.Result.{err_from_is_err_and}
use Rattle.deku_packets.specs.Back.{between, IsFirstDifference}
use Rattle.deku_packets.proofs.check.layer_change.Goals as goal

pub returns-in-None-clause-same : goal.returns-in-None-clause-same
returns-in-None-clause-same c =
    let same : between c.args.bytes.now c.args.placed.now.start c.args.placed.now.end ≡ c.in_ok-written.written.items = cc (c.between-read.ensures, c.in-None.ensures, c.as_slice.ensures.value) in
    inr (c.in_ok-written.written, c.in_ok-written.ensures, same)

pub returns-clause-changed : goal.returns-clause-changed
returns-clause-changed c =
    let lain = subst (λ x. IsFirstDifference x c.as_slice.result.now c.in-Some.index) c.between-read.ensures c.in-Some.ensures in
    let differs = subst (λ x. IsFirstDifference (between c.args.bytes.now c.args.placed.now.start c.args.placed.now.end) x c.in-Some.index) c.as_slice.ensures.value lain in
    record { record_there = search rules; written = c.in_ok-written.written; is = c.in_ok-written.ensures; offset = c.in-Some.index; differs = differs; at = c.saturating_add.ensures }

pub returns-in_err-written-clause-refused : goal.returns-in_err-written-clause-refused
returns-in_err-written-clause-refused c =
    let p = err_from_is_err_and c.from_residual.result c.from_residual.ensures.1 in
    rw (p.1, p.2) c.in_err-written.ensures
