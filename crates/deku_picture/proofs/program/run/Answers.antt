use Rattle.std.proofs.Common.{sym, ◌∙◌}
use Rattle.deku_program.specs.Texts.{words_of}
use Rattle.deku_picture.proofs.Forms.{fails, no_form}
use Rattle.deku_picture.proofs.program.run.Goals as goal

pub returns-clause-usage : goal.returns-clause-usage
returns-clause-usage g c two =
    let words = words_of c.args.args.now in
    let is = sym c.status_of.ensures ∙ two in
    (no_form words c.in-Err.failure (fails words (g.W.Write.contents c.args.output.now) (g.W.Write.contents c.command.new.output) c.in-Err.failure c.in-Err.ensures.ends is) is, c.in-Err.ensures.usage is)

pub returns-clause-told : goal.returns-clause-told
returns-clause-told g c two =
    let is = sym c.status_of.ensures ∙ two in
    record {
      failure = c.in-Err.failure;
      fails = fails (words_of c.args.args.now) (g.W.Write.contents c.args.output.now) (g.W.Write.contents c.command.new.output) c.in-Err.failure c.in-Err.ensures.ends is;
      two = is;
      told = c.complain.ensures;
    }

pub returns-clause-stopped : goal.returns-clause-stopped
returns-clause-stopped g c one = record { failure = c.in-Err.failure; ends = c.in-Err.ensures.ends; one = sym c.status_of.ensures ∙ one; told = c.complain.ensures }
