use Rattle.std.proofs.Common.{sym, ◌∙◌}
use Rattle.std.proofs.lemmas.Result.{err_from_is_err_and}
use Rattle.deku_reading.proofs.Slots.{same_items, seen_ok, seen_err}
use Rattle.deku_reading.proofs.impls.array.read_slots.Goals as goal

pub returns-clause-reads : goal.returns-clause-reads
returns-clause-reads g c = let h = c.in_ok-fill.ensures.reads in seen_ok g.X.ArrayLike.elements_of (same_items _ _ (sym h.2.1 ∙ c.turned.ensures)) h.1

pub returns-in_err-fill-clause-reads : goal.returns-in_err-fill-clause-reads
returns-in_err-fill-clause-reads g c =
    let p = err_from_is_err_and c.from_residual.result c.from_residual.ensures.1 in
    rw (p.1, p.2) (seen_err g.X.ArrayLike.elements_of c.in_err-fill.ensures.reads.1)

pub returns-clause-early : goal.returns-clause-early
returns-clause-early g c = c.in_ok-fill.ensures.early
