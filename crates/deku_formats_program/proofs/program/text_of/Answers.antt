use Rattle.std.proofs.Common.{subst}
use Rattle.std.specs.Prelude.{IfErr}
use Rattle.deku_formats_program.specs.contracts.program.RecordsTold.TheImpl.{ghosts}
use Rattle.deku_formats_program.proofs.Asking.{record_stops}
use Rattle.deku_formats_program.proofs.program.text_of.Goals as goal

pub returns-in-Some-clause-stops : goal.returns-in-Some-clause-stops
returns-in-Some-clause-stops g c =
    let given = rw c.in-Some.is at c.in_ok-bytes-in-Record.ensures.shown in
    let stops = subst (λ bs. IfErr c.record_text.result (ghosts.stops c.in-Record.format bs)) c.as_slice.ensures.value c.record_text.ensures.stops in
    rw c.in-Record.is (record_stops ghosts.stops c.in-Record.format (g.R.Read.remaining c.args.input.now) c.in-Some.bytes.items c.record_text.result given stops)
