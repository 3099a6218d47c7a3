use Rattle.std.proofs.Common.{rules, sym, subst, inr}
use Rattle.deku_program.specs.Texts.{words_of}
use Rattle.deku_picture.specs.Drawn.{IsOfForm, IsUnfinished, RunEnds}
use Rattle.deku_picture.proofs.Forms.{err_so}
use Rattle.deku_picture.proofs.program.command.Goals as goal

pub returns-in_err-text-clause-done : goal.returns-in_err-text-clause-done
returns-in_err-text-clause-done g c = search rules

pub returns-in_err-text-clause-usage : goal.returns-in_err-text-clause-usage
returns-in_err-text-clause-usage g c = search rules

pub returns-in_err-text-clause-kept : goal.returns-in_err-text-clause-kept
returns-in_err-text-clause-kept g c = search rules

pub returns-in_err-give_text-clause-done : goal.returns-in_err-give_text-clause-done
returns-in_err-give_text-clause-done g c = search rules

pub returns-in_err-give_text-clause-usage : goal.returns-in_err-give_text-clause-usage
returns-in_err-give_text-clause-usage g c = search rules

pub returns-in_err-give_text-clause-kept : goal.returns-in_err-give_text-clause-kept
returns-in_err-give_text-clause-kept g c =
    let told = g.W.Write.contents in
    let words = words_of c.args.args.now in
    let unfinished : IsUnfinished words (told c.args.output.now) (told c.give_text.new.output) =
    record { drawn = c.in_ok-text.ensures.drawn; text = c.as_bytes.result.now; form = subst (IsOfForm words) (sym c.as_bytes.ensures.value) c.in_ok-text.ensures.form; cut = c.in_err-give_text.ensures.cut } in
    search (rules, unfinished)

pub returns-clause-done : goal.returns-clause-done
returns-clause-done g c = search rules

pub returns-clause-usage : goal.returns-clause-usage
returns-clause-usage g c = search rules

pub returns-clause-kept : goal.returns-clause-kept
returns-clause-kept g c = search rules

pub returns-in_err-give_text-clause-ends : goal.returns-in_err-give_text-clause-ends
returns-in_err-give_text-clause-ends g c =
    let told = g.W.Write.contents in
    let words = words_of c.args.args.now in
    let unfinished : IsUnfinished words (told c.args.output.now) (told c.give_text.new.output) = record { drawn = c.in_ok-text.ensures.drawn; text = c.as_bytes.result.now; form = subst (IsOfForm words) (sym c.as_bytes.ensures.value) c.in_ok-text.ensures.form; cut = c.in_err-give_text.ensures.cut } in
    err_so c.from_residual-in_err-give_text.result _ (RunEnds words (told c.args.output.now) (told c.give_text.new.output)) c.from_residual-in_err-give_text.ensures.1
    (λ e is. inr (_, c.in_err-give_text.ensures.tried, is, unfinished))
