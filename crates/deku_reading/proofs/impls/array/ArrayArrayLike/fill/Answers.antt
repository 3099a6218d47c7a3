use Rattle.std.proofs.Common.{[], ◌∙◌, arith}
use Rattle.std.proofs.lemmas.Result.{err_from_is_err_and}
use Rattle.deku_reading.proofs.Slots.{no_items, item_read, item_refused, items_read, all_held}
use Rattle.deku_reading.proofs.Early.{promptly_none, promptly_on}
use Rattle.deku_reading.proofs.impls.array.ArrayArrayLike.fill.Goals as goal

pub loop-place-init : goal.loop-place-init
loop-place-init g c = record { far = no_items _ _ c.args.slots.now _ _ c.requires.slots; early = λ _. promptly_none }

pub loop-place-preserved : goal.loop-place-preserved
loop-place-preserved g c = record {
  far = item_read _ _ c.loop-place.place _ _ _ _ _ _ _ _ (omega (arith, c.requires.slots)) c.loop-place.invariant.far c.in_ok-from_reader_with_ctx.ensures.reads;
  early = λ p. promptly_on (c.loop-place.invariant.early p) (c.in_ok-from_reader_with_ctx.ensures.early p);
}

pub returns-in_err-from_reader_with_ctx-clause-reads : goal.returns-in_err-from_reader_with_ctx-clause-reads
returns-in_err-from_reader_with_ctx-clause-reads g c =
    let p = err_from_is_err_and c.from_residual.result c.from_residual.ensures.1 in
    rw (p.1, p.2) ([], item_refused _ _ c.loop-place.place _ _ _ _ _ _ _ _ (omega (arith, c.requires.slots)) c.loop-place.invariant.far c.in_err-from_reader_with_ctx.ensures.reads, tt)

pub returns-clause-reads : goal.returns-clause-reads
returns-clause-reads g c =
    let k = c.loop-place.invariant.far in
    (k.items, items_read _ _ _ _ _ _ _ _ (omega (arith, c.requires.slots)) k, (k.read ∙ omega (arith, c.requires.slots), all_held _ _ _ _ _ _ _ _ (omega (arith, c.requires.slots)) k))

pub returns-clause-early : goal.returns-clause-early
returns-clause-early g c = c.loop-place.invariant.early
