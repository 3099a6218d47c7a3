use Rattle.std.proofs.Common.{refl, arith, ⊎_elim}
use Rattle.std.proofs.lemmas.Result.{err_from_is_err_and}
use Rattle.deku_bits.specs.WriterCalls.{Finalizes}
use Rattle.deku.proofs.Joining.{first_refused, then_on}
use Rattle.deku_fields.proofs.Sound.{sound}
use Rattle.deku_fields.proofs.Padded.{padded_law}
use Rattle.deku_fields_tests.proofs.list.write_over.Goals as goal

pub returns : goal.returns
returns c = λ bytes all aligned laid room small.
    let m = sound (then_on {k = λ _. Finalizes} c.in_ok-write_list.ensures.meaning c.finalize.ensures.writes) (record { count = 0; known = refl; still = refl }) in
    let n = rw (c.new-writer.ensures.sink, c.new-writer.ensures.state, c.new.ensures.inner, c.new.ensures.position) at m in
    ⊎_elim (λ t. t.0) (λ none. absurd none) (padded_law c.args.items.now bytes _ 0 _ _ (record { fitting = all; aligned = aligned; laid = laid; none = refl; room = omega arith; countable = omega arith }) n)

pub returns-in_err-write_list : goal.returns-in_err-write_list
returns-in_err-write_list c = λ bytes all aligned laid room small.
    let p = err_from_is_err_and c.from_residual.result c.from_residual.ensures.1 in
    let m = sound (first_refused {k = λ _. Finalizes} c.in_err-write_list.ensures.meaning) (record { count = 0; known = refl; still = refl }) in
    let n = rw (c.new-writer.ensures.sink, c.new-writer.ensures.state, c.new.ensures.inner, c.new.ensures.position) at m in
    rw (p.1, p.2) (⊎_elim (λ t. t.0) (λ none. absurd none) (padded_law c.args.items.now bytes _ 0 _ _ (record { fitting = all; aligned = aligned; laid = laid; none = refl; room = omega arith; countable = omega arith }) n))
