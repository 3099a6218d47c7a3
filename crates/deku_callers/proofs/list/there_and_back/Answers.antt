use Rattle.std.proofs.lemmas.Result.{err_from_is_err_and}
use Rattle.std.proofs.Common.{◌∙◌}
use Rattle.deku_callers.proofs.Returning.{few, read_again}
use Rattle.deku_callers.proofs.list.there_and_back.Goals as goal

pub returns : goal.returns
returns c = read_again c.length_law.ensures c.args.items.now c.as_slice-2.result.now c.in_ok-bytes.bytes c.as_slice.result.now c.list_from_bytes.result
    (c.as_slice-2.ensures.value ∙ c.in_ok-fields.ensures) c.as_slice.ensures.value c.in_ok-bytes.ensures.laid_out c.list_from_bytes.ensures.values

pub returns-in_err-bytes : goal.returns-in_err-bytes
returns-in_err-bytes c =
    let k = err_from_is_err_and c.from_residual-in_err-bytes.result c.from_residual-in_err-bytes.ensures.1 in
    rw (k.1, k.2) (λ fitting aligned room. c.in_err-bytes.ensures.laid_out fitting aligned (few c.length_law.ensures c.args.items.now aligned room))

pub returns-in_err-fields : goal.returns-in_err-fields
returns-in_err-fields c =
    let k = err_from_is_err_and c.from_residual.result c.from_residual.ensures.1 in
    rw (k.1, k.2) (λ fitting aligned room. c.in_err-fields.ensures)
