use Rattle.std.proofs.Common.{◌+◌, refl, ap, sym, ◌∙◌}
use Rattle.deku_bits.specs.Standings.{count_of}
use Rattle.deku.specs.Composing.{Then}
use Rattle.deku.proofs.Joining.{passed_on, first_refused, then_on}
use Rattle.deku_pieces.specs.Sizes.{IfRead}
use Rattle.deku_pieces.proofs.Sizes.{as_read, not_as_read, here, same_count}
use Rattle.deku_pieces.proofs.sized_by.read_exactly.Goals as goal

pub returns-in_err-content-clause-reads : goal.returns-in_err-content-clause-reads
returns-in_err-content-clause-reads g c =
    here (λ s. Then (g.T.DekuReader.meaning tt) (IfRead (count_of s + c.args.bits))) (passed_on _ c.from_residual.ensures.1 (first_refused c.in_err-content.ensures.reads))

pub returns-then-not-exact-clause-reads : goal.returns-then-not-exact-clause-reads
returns-then-not-exact-clause-reads g c =
    here (λ s. Then (g.T.DekuReader.meaning tt) (IfRead (count_of s + c.args.bits)))
    (then_on c.in_ok-content.ensures.reads (not_as_read c.in_ok-content.content _ refl
    (λ h. c.if-not-exact.true (c.bits_read.ensures ∙ sym (same_count (g.R.Source.known c.from_reader_with_ctx.new.reader.source).remaining c.from_reader_with_ctx.new.reader.state) ∙ h ∙ ap (λ k. k + c.args.bits) ((same_count (g.R.Source.known c.args.reader.now.source).remaining c.args.reader.now.state) ∙ sym c.bits_read-before.ensures)))))

pub returns-clause-reads : goal.returns-clause-reads
returns-clause-reads g c =
    here (λ s. Then (g.T.DekuReader.meaning tt) (IfRead (count_of s + c.args.bits)))
    (then_on c.in_ok-content.ensures.reads (as_read
    ((same_count (g.R.Source.known c.from_reader_with_ctx.new.reader.source).remaining c.from_reader_with_ctx.new.reader.state) ∙ sym c.bits_read.ensures ∙ c.if-not-exact.false ∙ ap (λ k. k + c.args.bits) (c.bits_read-before.ensures ∙ sym (same_count (g.R.Source.known c.args.reader.now.source).remaining c.args.reader.now.state)))))
