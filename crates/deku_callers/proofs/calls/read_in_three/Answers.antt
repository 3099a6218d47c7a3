use Rattle.std.proofs.Common.{◌≡◌, ℕ, List, Some, ◌++◌, refl}
use Rattle.deku_bits.specs.Cursors.{cursor_source}
use Rattle.deku_bits.proofs.Handing.{unbroken}
use Rattle.deku_callers.specs.InThree.{ReadsInThree}
use Rattle.deku_callers.proofs.InThree.{starts, handed, all_read, first_refused, second_refused, third_refused}
use Rattle.deku_callers.proofs.calls.read_in_three.Goals as goal

pub returns-in_err-one : goal.returns-in_err-one
returns-in_err-one c =
    let bytes : List ℕ = c.args.bytes.now in
    let tells : (cursor_source (λ b. Some b.now) c.new-reader.result.source).remaining ≡ Some bytes = rw (c.new-reader.ensures.source, c.new.ensures.inner, c.new.ensures.position) refl in
    let begin = starts bytes _ c.new-reader.result.state tells c.new-reader.ensures.state in
    let refused = first_refused c.read_parts_law.ensures c.read_back_law.ensures c.args.first.now c.args.second.now c.args.third.now bytes _ begin _ _ (unbroken refl refl c.in_err-one.ensures.meaning) in
    handed (ReadsInThree (c.args.first.now ++ (c.args.second.now ++ c.args.third.now)) bytes) c.from_residual.result _ c.from_residual.ensures.1 refused

pub returns-in_err-two : goal.returns-in_err-two
returns-in_err-two c =
    let bytes : List ℕ = c.args.bytes.now in
    let tells : (cursor_source (λ b. Some b.now) c.new-reader.result.source).remaining ≡ Some bytes = rw (c.new-reader.ensures.source, c.new.ensures.inner, c.new.ensures.position) refl in
    let begin = starts bytes _ c.new-reader.result.state tells c.new-reader.ensures.state in
    let refused = second_refused c.read_parts_law.ensures c.read_back_law.ensures c.args.first.now c.args.second.now c.args.third.now bytes _ begin _ _ _ _
    (unbroken refl refl c.in_ok-one.ensures.meaning) (unbroken refl refl c.in_err-two.ensures) in
    handed (ReadsInThree (c.args.first.now ++ (c.args.second.now ++ c.args.third.now)) bytes) c.from_residual-in_err-two.result _ c.from_residual-in_err-two.ensures.1 refused

pub returns-in_err-three : goal.returns-in_err-three
returns-in_err-three c =
    let bytes : List ℕ = c.args.bytes.now in
    let tells : (cursor_source (λ b. Some b.now) c.new-reader.result.source).remaining ≡ Some bytes = rw (c.new-reader.ensures.source, c.new.ensures.inner, c.new.ensures.position) refl in
    let begin = starts bytes _ c.new-reader.result.state tells c.new-reader.ensures.state in
    let refused = third_refused c.read_parts_law.ensures c.read_back_law.ensures c.args.first.now c.args.second.now c.args.third.now bytes _ begin _ _ _ _ _ _
    (unbroken refl refl c.in_ok-one.ensures.meaning) (unbroken refl refl c.in_ok-two.ensures) (unbroken refl refl c.in_err-three.ensures) in
    handed (ReadsInThree (c.args.first.now ++ (c.args.second.now ++ c.args.third.now)) bytes) c.from_residual-in_err-three.result _ c.from_residual-in_err-three.ensures.1 refused

pub returns : goal.returns
returns c =
    let bytes : List ℕ = c.args.bytes.now in
    let tells : (cursor_source (λ b. Some b.now) c.new-reader.result.source).remaining ≡ Some bytes = rw (c.new-reader.ensures.source, c.new.ensures.inner, c.new.ensures.position) refl in
    let begin = starts bytes _ c.new-reader.result.state tells c.new-reader.ensures.state in
    all_read c.read_parts_law.ensures c.read_back_law.ensures c.args.first.now c.args.second.now c.args.third.now bytes _ begin (c.in_ok-one.one, c.in_ok-two.two, c.in_ok-three.three) _ _ _
    (unbroken refl refl c.in_ok-one.ensures.meaning) (unbroken refl refl c.in_ok-two.ensures) (unbroken refl refl c.in_ok-three.ensures)
