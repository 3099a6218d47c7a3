use Rattle.std.proofs.lemmas.Result.{err_from_is_err_and}
use Rattle.std.proofs.Common.{ℕ, List, [], ◌∷◌, All, Ok, Err, refl, ◌∙◌, arith, rules}
use Rattle.std.proofs.lemmas.List.Elements.{All-cons, All-nil}
use Rattle.deku_num.specs.declared.ctx.Endian.TheVariants.{Big}
use Rattle.deku_callers.proofs.Counting.{AreLaid, made}
use Rattle.deku_callers.proofs.Pairs.{IsOfType, Pair, SamePair, last_is, pairs_laid, same_pair}
use Rattle.deku_callers.proofs.maps.value_at.Goals as goal

pub returns : goal.returns
returns c =
    let a : ℕ × ℕ = c.args.first in
    let b : ℕ × ℕ = c.args.second in
    let d : ℕ × ℕ = c.args.third in
    let ps : List (ℕ × ℕ) = a ∷ b ∷ d ∷ [] in
    let fits : IsOfType a × IsOfType b × IsOfType d = ((search rules, search rules), (search rules, search rules), (search rules, search rules)) in
    let all : All IsOfType ps = All-cons IsOfType a (b ∷ d ∷ []) fits.0 (All-cons IsOfType b (d ∷ []) fits.1 (All-cons IsOfType d [] fits.2 (All-nil IsOfType))) in
    let laid : AreLaid Pair ps = pairs_laid c.length_law.ensures ps all (omega arith) in
    let written = c.counted_law.ensures.there Big ps (Ok c.in_ok-bytes.bytes) c.in_ok-bytes.ensures laid.pieces laid.has laid.in_turn laid.few in
    let map = made Pair SamePair same_pair _ (c.counted_law.ensures.back Big) _ _ _ _ _ ps laid c.as_slice.result.now c.new_count.ensures refl (c.as_slice.ensures.value ∙ written)
    (Ok (c.in_ok-_bits._bits, c.in_ok-_bits.map)) c.in_ok-_bits.ensures in
    c.copied.ensures ∙ c.get.ensures.value ∙ map.0.0 c.args.key ∙ last_is ps c.args.key

pub returns-in_err-_bits : goal.returns-in_err-_bits
returns-in_err-_bits c =
    let a : ℕ × ℕ = c.args.first in
    let b : ℕ × ℕ = c.args.second in
    let d : ℕ × ℕ = c.args.third in
    let ps : List (ℕ × ℕ) = a ∷ b ∷ d ∷ [] in
    let fits : IsOfType a × IsOfType b × IsOfType d = ((search rules, search rules), (search rules, search rules), (search rules, search rules)) in
    let all : All IsOfType ps = All-cons IsOfType a (b ∷ d ∷ []) fits.0 (All-cons IsOfType b (d ∷ []) fits.1 (All-cons IsOfType d [] fits.2 (All-nil IsOfType))) in
    let laid : AreLaid Pair ps = pairs_laid c.length_law.ensures ps all (omega arith) in
    let written = c.counted_law.ensures.there Big ps (Ok c.in_ok-bytes.bytes) c.in_ok-bytes.ensures laid.pieces laid.has laid.in_turn laid.few in
    let k = err_from_is_err_and c.from_residual-in_err-_bits.result c.from_residual-in_err-_bits.ensures.1 in
    rw (k.1, k.2) (made Pair SamePair same_pair _ (c.counted_law.ensures.back Big) _ _ _ _ _ ps laid c.as_slice.result.now c.new_count.ensures refl (c.as_slice.ensures.value ∙ written)
    (Err c.in_err-_bits.field-0.0) c.in_err-_bits.ensures)

pub returns-in_err-bytes : goal.returns-in_err-bytes
returns-in_err-bytes c =
    let a : ℕ × ℕ = c.args.first in
    let b : ℕ × ℕ = c.args.second in
    let d : ℕ × ℕ = c.args.third in
    let ps : List (ℕ × ℕ) = a ∷ b ∷ d ∷ [] in
    let fits : IsOfType a × IsOfType b × IsOfType d = ((search rules, search rules), (search rules, search rules), (search rules, search rules)) in
    let all : All IsOfType ps = All-cons IsOfType a (b ∷ d ∷ []) fits.0 (All-cons IsOfType b (d ∷ []) fits.1 (All-cons IsOfType d [] fits.2 (All-nil IsOfType))) in
    let laid : AreLaid Pair ps = pairs_laid c.length_law.ensures ps all (omega arith) in
    let k = err_from_is_err_and c.from_residual.result c.from_residual.ensures.1 in
    rw (k.1, k.2) (c.counted_law.ensures.there Big ps (Err c.in_err-bytes.field-0.0) c.in_err-bytes.ensures laid.pieces laid.has laid.in_turn laid.few)
