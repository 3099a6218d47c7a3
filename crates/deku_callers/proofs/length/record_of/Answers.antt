use Rattle.std.proofs.Common.{◌≡◌, ◌<◌, ℕ, List, [], ◌∷◌, ◌++◌, All, Some, drop, length, arith, ap, ◌∙◌, rules, append-nil}
use Rattle.std.proofs.lemmas.List.Elements.{All-from_get_or}
use Rattle.std.specs.Io.Cursor.{cursor_position, cursor_inner}
use Rattle.deku_bits.specs.Devices.{Whole, Grows}
use Rattle.deku_bits.specs.Cursors.{known_vector}
use Rattle.deku_bits.proofs.Handing.{no_fewer_on}
use Rattle.deku_bits.proofs.WholeLaws.{plain_gave, holds, none_before, one_byte}
use Rattle.deku_callers.proofs.length.record_of.Goals as goal

one_whole : (v w : Whole) (n : ℕ) → Some v ≡ Some (record w { place = n }) → v.bytes ≡ w.bytes
one_whole v w n e = cc

pub returns : goal.returns
returns c =
    let payload : List ℕ = c.args.payload.now in
    let w0 = c.new-writer.result in
    let w1 = c.write_bytes.new.self in
    let w2 = c.write_bytes-2.new.self in
    let w3 = c.seek.new.self in
    let w4 = c.write_bytes-3.new.self in
    let v0 : Whole = record { place = cursor_position w0.sink; bytes = (cursor_inner w0.sink).items; access = Grows } in
    let v2 : Whole = record { place = cursor_position w2.sink; bytes = (cursor_inner w2.sink).items; access = Grows } in
    let v3 : Whole = record { place = cursor_position w3.sink; bytes = (cursor_inner w3.sink).items; access = Grows } in
    let v4 : Whole = record { place = cursor_position w4.sink; bytes = (cursor_inner w4.sink).items; access = Grows } in
    let bytes : All (λ b. b < 256) payload = All-from_get_or (λ b. b < 256) payload 0 (λ i inside. search (rules, c.type_inv.payload i)) in
    let a = plain_gave (known_vector w0.sink) (known_vector w1.sink) (0 ∷ []) [] 0 w0.state w1.state c.new-writer.ensures.state
    (rw (c.new-writer.ensures.sink, c.new-2.ensures.position) (none_before _)) (one_byte 0 (omega arith)) c.in_ok-write_bytes.ensures.writes in
    let b = plain_gave (known_vector w1.sink) (known_vector w2.sink) payload (0 ∷ []) a.count w1.state w2.state a.state_is a.taken_is bytes c.in_ok-write_bytes-2.ensures.writes in
    let kept = no_fewer_on (known_vector w0.sink).health (known_vector w1.sink).health (known_vector w2.sink).health a.kept b.kept in
    let empty : v0.bytes ≡ [] = rw (c.new-writer.ensures.sink, c.new-2.ensures.inner) c.new.ensures.items in
    let held : v2.bytes ≡ 0 ∷ payload = holds v0 v2 (0 ∷ payload) kept.whole b.taken_is ∙ ap (λ x. (0 ∷ payload) ++ drop (length (0 ∷ payload)) x) empty ∙ append-nil (0 ∷ payload) in
    let n : ℕ = c.in_ok-seek.field-0 in
    let at : n ≡ 0 = c.in_ok-seek.ensures.sought.target in
    let same : v3.bytes ≡ 0 ∷ payload = one_whole v3 v2 n c.in_ok-seek.ensures.sought.whole ∙ held in
    let third : (known_vector w3.sink).taken ≡ Some [] = (rw at at c.in_ok-seek.ensures.stands.0) ∙ none_before v2.bytes in
    let d = plain_gave (known_vector w3.sink) (known_vector w4.sink) (length payload ∷ []) [] _ w3.state w4.state c.in_ok-seek.ensures.ok
    third (one_byte (length payload) (omega arith)) c.in_ok-write_bytes-3.ensures.writes in
    let end : v4.bytes ≡ length payload ∷ payload = holds v3 v4 (length payload ∷ []) d.kept.whole d.taken_is ∙ ap (λ x. length payload ∷ drop 1 x) same in
    rw (c.into_inner-2.ensures, c.into_inner.ensures) end
