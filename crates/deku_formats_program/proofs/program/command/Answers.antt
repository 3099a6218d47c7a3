use Rattle.std.proofs.Common.{rules, refl, subst, inl, inr}
use Rattle.std.specs.Prelude.{string_bytes}
use Rattle.deku_program.specs.Texts.{words_of}
use Rattle.deku_program.specs.Outputs.{IsCutShort}
use Rattle.deku_formats_program.specs.Runs.{RunEnds, IsUnfinished}
use Rattle.deku_formats_program.specs.contracts.program.RecordsTold.TheImpl.{ghosts}
use Rattle.deku_formats_program.proofs.Asking.{record_asked, err_so}
use Rattle.deku_formats_program.proofs.program.command.Goals as goal

pub returns-in_err-text-clause-unread : goal.returns-in_err-text-clause-unread
returns-in_err-text-clause-unread g c = record_asked (words_of c.args.args.now) c.in-Some.form c.in-Some.ensures c.text_of.ensures.unread

pub returns-in_err-give_text-clause-unread : goal.returns-in_err-give_text-clause-unread
returns-in_err-give_text-clause-unread g c = record_asked (words_of c.args.args.now) c.in-Some.form c.in-Some.ensures c.text_of.ensures.unread

pub returns-clause-unread : goal.returns-clause-unread
returns-clause-unread g c = record_asked (words_of c.args.args.now) c.in-Some.form c.in-Some.ensures c.text_of.ensures.unread

pub returns-in_err-text-clause-formed : goal.returns-in_err-text-clause-formed
returns-in_err-text-clause-formed g c none = absurd (none c.in-Some.form c.in-Some.ensures)

pub returns-in_err-give_text-clause-formed : goal.returns-in_err-give_text-clause-formed
returns-in_err-give_text-clause-formed g c none = absurd (none c.in-Some.form c.in-Some.ensures)

pub returns-clause-formed : goal.returns-clause-formed
returns-clause-formed g c none = absurd (none c.in-Some.form c.in-Some.ensures)

pub returns-in_err-text-clause-ends : goal.returns-in_err-text-clause-ends
returns-in_err-text-clause-ends g c =
    let told = g.W.Write.contents in
    let ends : RunEnds ghosts.tells ghosts.stops (words_of c.args.args.now) (g.R.Read.remaining c.args.input.now) (told c.args.output.now) (told c.args.output.now) c.in_err-text.field-0.0 =
    inl (inr (c.in-Some.form, c.in-Some.ensures, c.in_err-text.ensures.stops), refl) in
    search (rules, ends)

pub returns-in_err-give_text-clause-ends : goal.returns-in_err-give_text-clause-ends
returns-in_err-give_text-clause-ends g c =
    let told = g.W.Write.contents in
    let cut = subst (IsCutShort (told c.args.output.now) (told c.give_text.new.output)) c.as_bytes.ensures.value c.in_err-give_text.ensures.cut in
    let unfinished : IsUnfinished ghosts.tells (words_of c.args.args.now) (g.R.Read.remaining c.args.input.now) (told c.args.output.now) (told c.give_text.new.output) =
    record { text = string_bytes c.in_ok-text.text; asked = (c.in-Some.form, c.in-Some.ensures, c.in_ok-text.ensures.shown); cut = cut } in
    err_so c.from_residual-in_err-give_text.result _ (RunEnds ghosts.tells ghosts.stops (words_of c.args.args.now) (g.R.Read.remaining c.args.input.now) (told c.args.output.now) (told c.give_text.new.output))
    c.from_residual-in_err-give_text.ensures.1 (λ e is. inr (_, c.in_err-give_text.ensures.tried, is, unfinished))
