use Rattle.std.proofs.Common.{◌≡◌, ◌∙◌, pos}
use Rattle.std.proofs.lemmas.Result.{err_from_is_err_and}
use Rattle.deku_num.specs.Numbers.{value}
use Rattle.deku_num.proofs.Carrying.{word_read, word_refused, number_read, number_refused, unsigned_in_type, word_fits, unsigned_worth}
use Rattle.deku_num.proofs.calls.read_unsigned.Goals as goal

pub number_of_word-requires-clause-fits : goal.number_of_word-requires-clause-fits
number_of_word-requires-clause-fits g c = word_fits (word_read c.args.layout.order c.in_ok-width.width c.in_ok-word.ensures.reads)

pub returns-in_err-word-clause-reads : goal.returns-in_err-word-clause-reads
returns-in_err-word-clause-reads g c =
    let p = err_from_is_err_and c.from_residual-in_err-word.result c.from_residual-in_err-word.ensures.1 in
    rw (p.1, p.2)
    (number_refused c.args.number_type c.args.layout _ c.in_ok-width.ensures.ok.1 (word_refused c.args.layout.order c.in_ok-width.width c.in_err-word.ensures.reads) c.in_ok-width.ensures.ok.0)

pub returns-clause-reads : goal.returns-clause-reads
returns-clause-reads g c =
    let r = word_read c.args.layout.order c.in_ok-width.width c.in_ok-word.ensures.reads in
    let worth : pos c.number_of_word.result ≡ value c.args.number_type c.args.layout r.bits =
    unsigned_worth c.args.number_type c.args.layout r.bits c.number_of_word.result c.requires.unsigned (c.number_of_word.ensures r.bits r.long r.worth) in
    rw worth (number_read c.args.number_type c.args.layout _ c.in_ok-width.ensures.ok.1 r.taken c.in_ok-width.ensures.ok.0)

pub returns-clause-fetched : goal.returns-clause-fetched
returns-clause-fetched g c = rw c.in_ok-width.ensures.ok.0 at c.in_ok-word.ensures.fetched

pub returns-clause-in_type : goal.returns-clause-in_type
returns-clause-in_type g c =
    let r = word_read c.args.layout.order c.in_ok-width.width c.in_ok-word.ensures.reads in
    unsigned_in_type c.args.number_type c.args.layout r.bits c.number_of_word.result c.requires.unsigned c.in_ok-width.ensures.ok.1 (r.long ∙ c.in_ok-width.ensures.ok.0)
    (unsigned_worth c.args.number_type c.args.layout r.bits c.number_of_word.result c.requires.unsigned (c.number_of_word.ensures r.bits r.long r.worth))
