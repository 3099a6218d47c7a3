use Rattle.std.proofs.Common.{◌≡◌, ◌+◌, ◌*◌, ◌<◌, ℕ, List, All, Some, length, length-drop, drop, get_or, slice_get, arith, refl, ap, ap₂, sym, ◌∙◌, rules}
use Rattle.std.proofs.lemmas.Option.{slice_get-get_or}
use Rattle.std.proofs.lemmas.List.Elements.{All-drop, All-from_get_or}
use Rattle.std.specs.Io.Cursor.{cursor_position, cursor_inner}
use Rattle.deku_bits.specs.declared.ctx.Order.TheVariants.{Msb0}
use Rattle.deku_bits.specs.Devices.{Whole, ReadOnly}
use Rattle.deku_bits.specs.Cursors.{cursor_source}
use Rattle.deku_bits.proofs.WholeLaws.{plain_got, stays, got_front, got_at}
use Rattle.deku_callers.proofs.offset.byte_of_record.Goals as goal

pub returns : goal.returns
returns c =
    let all : List ℕ = c.args.bytes.now in
    let first = c.new-reader.result in
    let read = c.read_bytes_const_into.new.self in
    let sought = c.seek.new.self in
    let last = c.read_bytes_const_into-2.new.self in
    let head : List ℕ = c.read_bytes_const_into.new.buf in
    let byte : List ℕ = c.read_bytes_const_into-2.new.buf in
    let bytes : All (λ b. b < 256) all = All-from_get_or (λ b. b < 256) all 0 (λ i inside. search (rules, c.type_inv.bytes i)) in
    let one = plain_got (cursor_source (λ b. Some b.now) first.source) (cursor_source (λ b. Some b.now) read.source) Msb0 2 0 all head first.state read.state c.new-reader.ensures.state
    (rw (c.new-reader.ensures.source, c.new.ensures.inner, c.new.ensures.position) refl) bytes c.in_ok-read_bytes_const_into.ensures.reads in
    let before : Whole = record { place = cursor_position first.source; bytes = (cursor_inner first.source).now; access = ReadOnly } in
    let after : Whole = record { place = cursor_position read.source; bytes = (cursor_inner read.source).now; access = ReadOnly } in
    let kept : after.bytes ≡ before.bytes = stays before after one.1.whole refl in
    let same : after.bytes ≡ all = kept ∙ (rw (c.new-reader.ensures.source, c.new.ensures.inner) refl) in
    let n : ℕ = c.in_ok-seek.field-0 in
    let two = plain_got (cursor_source (λ b. Some b.now) sought.source) (cursor_source (λ b. Some b.now) last.source) Msb0 1 _ (drop n all) byte sought.state last.state c.in_ok-seek.ensures.ok
    (rw same at c.in_ok-seek.ensures.remaining) (All-drop (λ b. b < 256) n all bytes) c.in_ok-read_bytes_const_into-2.ensures.reads in
    let at : n ≡ 256 * get_or head 0 0 + get_or head 1 0 = c.in_ok-seek.ensures.sought.target in
    let high : get_or head 0 0 ≡ get_or all 0 0 = got_front 2 0 head all (omega arith) one.0.0 one.0.1 in
    let low : get_or head 1 0 ≡ get_or all 1 0 = got_front 2 1 head all (omega arith) one.0.0 one.0.1 in
    let place : n ≡ 256 * get_or all 0 0 + get_or all 1 0 = at ∙ ap₂ (λ x y. 256 * x + y) high low in
    let found : get_or byte 0 0 ≡ get_or all n 0 = got_at n byte all two.0.0 two.0.1 in
    let there : n < length all = omega (arith, two.0.0, length-drop n all) in
    (one.0.0, ap (λ k. slice_get all k) (sym place) ∙ slice_get-get_or all n 0 there ∙ ap Some (sym found))
