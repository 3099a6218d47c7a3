use Rattle.std.proofs.Common.{◌≡◌, List, [], ◌++◌, MatchResult, refl}
use Rattle.std.specs.Io.Cursor.{cursor_position, cursor_inner}
use Rattle.std.specs.declared.io.ErrorKind.TheVariants.{OutOfMemory}
use Rattle.deku_bits.specs.declared.error.DekuError.TheVariants.{Io}
use Rattle.deku_bits.specs.Devices.{Whole, Grows}
use Rattle.deku_bits.specs.Cursors.{known_vector}
use Rattle.deku_bits.specs.Standings.{Going, writer_state}
use Rattle.deku_bits.proofs.Handing.{meant, unbroken}
use Rattle.deku.specs.Wholes.{in_memory}
use Rattle.deku.proofs.Joining.{first_refused, then_on}
use Rattle.deku_fields.specs.declared.list.Item.{Item}
use Rattle.deku_fields.specs.Items.{LaysOut}
use Rattle.deku_callers.proofs.InThree.{handed, laid, unlaid, held}
use Rattle.deku_callers.proofs.calls.bytes_in_three.Goals as goal

pub returns-in_err-write_in_three : goal.returns-in_err-write_in_three
returns-in_err-write_in_three c = λ fitting aligned small.
    let items : List Item = c.args.first.now ++ (c.args.second.now ++ c.args.third.now) in
    let w0 = c.new-writer.result in
    let begin : writer_state (known_vector w0.sink) w0.state ≡ Going in_memory 0 = rw (c.new-writer.ensures.state, c.new-writer.ensures.sink, c.new-2.ensures.inner, c.new-2.ensures.position, c.new.ensures.items) refl in
    let refused = unlaid c.layout_law.ensures c.padded_law.ensures items fitting aligned small _ _ _ begin (unbroken refl refl (first_refused c.in_err-write_in_three.ensures)) in
    handed (λ r. MatchResult r (λ v. LaysOut items v.items) (λ e. e ≡ Io OutOfMemory)) c.from_residual.result _ c.from_residual.ensures.1 refused

pub returns-in_err-finalize : goal.returns-in_err-finalize
returns-in_err-finalize c = λ fitting aligned small.
    let items : List Item = c.args.first.now ++ (c.args.second.now ++ c.args.third.now) in
    let w0 = c.new-writer.result in
    let begin : writer_state (known_vector w0.sink) w0.state ≡ Going in_memory 0 = rw (c.new-writer.ensures.state, c.new-writer.ensures.sink, c.new-2.ensures.inner, c.new-2.ensures.position, c.new.ensures.items) refl in
    let refused = unlaid c.layout_law.ensures c.padded_law.ensures items fitting aligned small _ _ _ begin (unbroken refl refl (then_on c.in_ok-write_in_three.ensures c.in_err-finalize.ensures.writes)) in
    handed (λ r. MatchResult r (λ v. LaysOut items v.items) (λ e. e ≡ Io OutOfMemory)) c.from_residual-in_err-finalize.result _ c.from_residual-in_err-finalize.ensures.1 refused

pub returns : goal.returns
returns c = λ fitting aligned small.
    let items : List Item = c.args.first.now ++ (c.args.second.now ++ c.args.third.now) in
    let w0 = c.new-writer.result in
    let w2 = c.finalize.new.self in
    let v0 : Whole = record { place = cursor_position w0.sink; bytes = (cursor_inner w0.sink).items; access = Grows } in
    let v2 : Whole = record { place = cursor_position w2.sink; bytes = (cursor_inner w2.sink).items; access = Grows } in
    let begin : writer_state (known_vector w0.sink) w0.state ≡ Going in_memory 0 = rw (c.new-writer.ensures.state, c.new-writer.ensures.sink, c.new-2.ensures.inner, c.new-2.ensures.position, c.new.ensures.items) refl in
    let empty : v0.bytes ≡ [] = rw (c.new-writer.ensures.sink, c.new-2.ensures.inner) c.new.ensures.items in
    let both = meant (then_on c.in_ok-write_in_three.ensures c.in_ok-finalize.ensures.writes) in
    let out = laid c.layout_law.ensures c.padded_law.ensures items fitting aligned small _ (known_vector w2.sink) w2.state begin both.0 in
    let is : v2.bytes ≡ out.0 = held v0 v2 out.0 empty both.1.whole out.2 in
    rw (c.into_inner-2.ensures, c.into_inner.ensures) (rw is out.1)
