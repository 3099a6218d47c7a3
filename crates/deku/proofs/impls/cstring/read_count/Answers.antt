use Rattle.std.proofs.lemmas.Result.{err_from_is_err_and}
use Rattle.std.proofs.Common.{[], ◌∷◌, ◌+◌, ◌∙◌, ap, arith}
use Rattle.std.proofs.lemmas.List.{length-append}
use Rattle.deku_reading.proofs.Runs.{one_more, run_ended, run_refused}
use Rattle.deku_reading.proofs.Early.{promptly_on}
use Rattle.deku.proofs.impls.cstring.read_count.Goals as goal

pub returns-in_err-read_byte-clause-reads : goal.returns-in_err-read_byte-clause-reads
returns-in_err-read_byte-clause-reads g c =
    let k = err_from_is_err_and c.from_residual.result c.from_residual.ensures.1 in
    rw (k.1, k.2) (run_refused (c.loop.invariant.far.1) (omega (arith, c.loop.invariant.far.0)) c.in_err-read_byte.ensures.reads)

pub loop-preserved : goal.loop-preserved
loop-preserved g c = record {
  far = rw c.in_ok-read_byte.ensures.put (length-append c.loop.bytes.items (c.in_ok-read_byte.field-0 ∷ []) ∙ ap (λ x. x + 1) (c.loop.invariant.far.0), one_more (c.loop.invariant.far.1) c.in_ok-read_byte.ensures.reads);
  early = promptly_on c.loop.invariant.early c.in_ok-read_byte.ensures.early;
}

pub returns-clause-reads : goal.returns-clause-reads
returns-clause-reads g c = run_ended (c.loop.invariant.far.1) (omega (arith, c.loop.invariant.far.0))

pub returns-clause-early : goal.returns-clause-early
returns-clause-early g c = c.loop.invariant.early
