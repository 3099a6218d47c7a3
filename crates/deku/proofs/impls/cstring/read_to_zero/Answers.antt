use Rattle.std.proofs.lemmas.Result.{err_from_is_err_and}
use Rattle.std.proofs.Common.{[], ◌∷◌, ◌++◌, ◌≢◌, ap}
use Rattle.std.proofs.lemmas.List.Elements.{All-push}
use Rattle.deku_reading.proofs.Runs.{one_more, run_ended, run_refused}
use Rattle.deku_reading.proofs.Early.{promptly_on}
use Rattle.deku.proofs.impls.cstring.read_to_zero.Goals as goal

pub returns-then-byte-eq0-clause-reads : goal.returns-then-byte-eq0-clause-reads
returns-then-byte-eq0-clause-reads g c =
    let old = c.loop-bytes.bytes.items in
    rw c.in_ok-byte.ensures.put (run_ended (one_more (c.loop-bytes.invariant.far.1) c.in_ok-byte.ensures.reads) (old, (c.loop-bytes.invariant.far.0, ap (λ b. old ++ b ∷ []) c.if-byte-eq0.true)))

pub loop-bytes-preserved : goal.loop-bytes-preserved
loop-bytes-preserved g c =
    let old = c.loop-bytes.bytes.items in
    record {
      far = rw c.in_ok-byte.ensures.put (All-push (λ b. b ≢ 0) old c.in_ok-byte.byte (c.loop-bytes.invariant.far.0) c.if-byte-eq0.false, one_more (c.loop-bytes.invariant.far.1) c.in_ok-byte.ensures.reads);
      early = promptly_on c.loop-bytes.invariant.early c.in_ok-byte.ensures.early;
    }

pub returns-in_err-byte-clause-reads : goal.returns-in_err-byte-clause-reads
returns-in_err-byte-clause-reads g c =
    let k = err_from_is_err_and c.from_residual.result c.from_residual.ensures.1 in
    rw (k.1, k.2) (run_refused (c.loop-bytes.invariant.far.1) (c.loop-bytes.invariant.far.0) c.in_err-byte.ensures.reads)

pub returns-then-byte-eq0-clause-early : goal.returns-then-byte-eq0-clause-early
returns-then-byte-eq0-clause-early g c = promptly_on c.loop-bytes.invariant.early c.in_ok-byte.ensures.early
