use Rattle.std.proofs.lemmas.Result.{err_from_is_err_and}
use Rattle.std.proofs.Common.{◌≡◌, ◌<◌, ◌^◌, ℕ, List, All, Ok, Err, ◌∙◌, rules}
use Rattle.std.proofs.lemmas.List.Elements.{All-from_get_or}
use Rattle.deku_num.specs.declared.ctx.Endian.TheVariants.{Big}
use Rattle.std.specs.Cmp.{nat_eq_equiv}
use Rattle.std.proofs.lemmas.Map.Made.{hash_set_len-from_list}
use Rattle.deku_callers.proofs.Counting.{AreLaid, made, same_number}
use Rattle.deku_callers.proofs.Pairs.{Byte, bytes_laid}
use Rattle.deku_callers.proofs.maps.kept_once.Goals as goal

pub returns : goal.returns
returns c =
    let ns : List ℕ = c.args.items.now.items in
    let all : All (λ n. n < 2 ^ 8) ns = All-from_get_or (λ n. n < 2 ^ 8) ns 0 (λ i inside. search (rules, c.type_inv.items i)) in
    let laid : AreLaid Byte ns = bytes_laid c.length_law.ensures ns all c.requires in
    let written = c.counted_law.ensures.there Big ns (Ok c.in_ok-bytes.bytes) c.in_ok-bytes.ensures laid.pieces laid.has laid.in_turn laid.few in
    let set = made Byte (λ x y. x ≡ y) same_number _ (c.counted_law.ensures.back Big) _ _ _ _ _ ns laid c.as_slice.result.now c.new_count.ensures (search rules) (c.as_slice.ensures.value ∙ written)
    (Ok (c.in_ok-_bits._bits, c.in_ok-_bits.set)) c.in_ok-_bits.ensures in
    (c.contains.ensures ∙ set.0.0 c.args.byte, c.len-2.ensures.len ∙ hash_set_len-from_list nat_eq_equiv ns c.in_ok-_bits.set set.0)

pub returns-in_err-_bits : goal.returns-in_err-_bits
returns-in_err-_bits c =
    let ns : List ℕ = c.args.items.now.items in
    let all : All (λ n. n < 2 ^ 8) ns = All-from_get_or (λ n. n < 2 ^ 8) ns 0 (λ i inside. search (rules, c.type_inv.items i)) in
    let laid : AreLaid Byte ns = bytes_laid c.length_law.ensures ns all c.requires in
    let written = c.counted_law.ensures.there Big ns (Ok c.in_ok-bytes.bytes) c.in_ok-bytes.ensures laid.pieces laid.has laid.in_turn laid.few in
    let k = err_from_is_err_and c.from_residual-in_err-_bits.result c.from_residual-in_err-_bits.ensures.1 in
    rw (k.1, k.2) (made Byte (λ x y. x ≡ y) same_number _ (c.counted_law.ensures.back Big) _ _ _ _ _ ns laid c.as_slice.result.now c.new_count.ensures (search rules) (c.as_slice.ensures.value ∙ written)
    (Err c.in_err-_bits.field-0.0) c.in_err-_bits.ensures)

pub returns-in_err-bytes : goal.returns-in_err-bytes
returns-in_err-bytes c =
    let ns : List ℕ = c.args.items.now.items in
    let all : All (λ n. n < 2 ^ 8) ns = All-from_get_or (λ n. n < 2 ^ 8) ns 0 (λ i inside. search (rules, c.type_inv.items i)) in
    let laid : AreLaid Byte ns = bytes_laid c.length_law.ensures ns all c.requires in
    let k = err_from_is_err_and c.from_residual.result c.from_residual.ensures.1 in
    rw (k.1, k.2) (c.counted_law.ensures.there Big ns (Err c.in_err-bytes.field-0.0) c.in_err-bytes.ensures laid.pieces laid.has laid.in_turn laid.few)
