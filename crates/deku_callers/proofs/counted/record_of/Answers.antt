use Rattle.std.proofs.lemmas.Result.{err_from_is_err_and}
use Rattle.std.proofs.Common.{◌<◌, ◌^◌, ℕ, List, All, Ok, Err, ◌∙◌, arith, rules}
use Rattle.std.proofs.lemmas.List.Elements.{All-from_get_or}
use Rattle.deku_num.specs.declared.ctx.Endian.TheVariants.{Big}
use Rattle.deku_callers.proofs.Headers.{Word}
use Rattle.deku_callers.proofs.Counting.{AreLaid, words_laid, recorded}
use Rattle.deku_callers.proofs.counted.record_of.Goals as goal

pub returns : goal.returns
returns c =
    let ns : List ℕ = c.args.numbers.now.items in
    let all : All (λ n. n < 2 ^ 16) ns = All-from_get_or (λ n. n < 2 ^ 16) ns 0 (λ i inside. search (rules, c.type_inv.numbers i)) in
    let laid : AreLaid Word ns = words_laid c.length_law.ensures ns all (omega (arith, c.requires)) in
    let written = c.counted_law.ensures.there Big ns (Ok c.in_ok-bytes.bytes) c.in_ok-bytes.ensures laid.pieces laid.has laid.in_turn laid.few in
    recorded ns laid c.len.result c.as_slice.result.now (search rules) (c.as_slice.ensures.value ∙ written) c.behind.result c.behind.ensures

pub returns-in_err-bytes : goal.returns-in_err-bytes
returns-in_err-bytes c =
    let ns : List ℕ = c.args.numbers.now.items in
    let all : All (λ n. n < 2 ^ 16) ns = All-from_get_or (λ n. n < 2 ^ 16) ns 0 (λ i inside. search (rules, c.type_inv.numbers i)) in
    let laid : AreLaid Word ns = words_laid c.length_law.ensures ns all (omega (arith, c.requires)) in
    let k = err_from_is_err_and c.from_residual.result c.from_residual.ensures.1 in
    rw (k.1, k.2) (c.counted_law.ensures.there Big ns (Err c.in_err-bytes.field-0.0) c.in_err-bytes.ensures laid.pieces laid.has laid.in_turn laid.few)
