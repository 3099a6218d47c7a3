use Rattle.std.proofs.Common.{◌∙◌, rules}
use mir.Syntax.{w128}
use mir.Val.{SFits}
use Rattle.std.proofs.lemmas.Int.{to_z-of_z}
use Rattle.std.proofs.lemmas.Result.{err_from_is_err_and}
use Rattle.deku_bits.specs.Bits.{bits_of}
use Rattle.deku_bits.proofs.Binary.{length-bits_of}
use Rattle.deku_num.proofs.Carrying.{high_in, word_read, word_refused, number_read, number_refused, signed_in_type, word_fits, number_fits, signed_worth}
use Rattle.deku_num.proofs.calls.read_signed.Goals as goal

pub returns-in-Some-clause-reads : goal.returns-in-Some-clause-reads
returns-in-Some-clause-reads g c =
    let l = c.args.layout in
    let n = c.in_ok-width.width in
    let bits = bits_of n c.in-Some.high in
    let is = high_in l n c.in-Some.high c.in-Some.ensures.big c.in-Some.ensures.high c.in-Some.ensures.below in
    let fits : SFits w128 c.sign_extend.result = search rules in
    let taken = rw (← c.in-Some.ensures.high) at c.in-Some.ensures.takes in
    rw (to_z-of_z w128 c.sign_extend.result fits ∙ c.sign_extend.ensures ∙ signed_worth c.args.number_type l bits n c.in-Some.high c.requires.signed (length-bits_of n c.in-Some.high) is)
    (number_read c.args.number_type l _ c.in_ok-width.ensures.ok.1 taken c.in_ok-width.ensures.ok.0)

pub returns-in-Some-clause-fetched : goal.returns-in-Some-clause-fetched
returns-in-Some-clause-fetched g c = rw c.in_ok-width.ensures.ok.0 at c.in-Some.ensures.fetched

pub returns-in-Some-clause-in_type : goal.returns-in-Some-clause-in_type
returns-in-Some-clause-in_type g c =
    let l = c.args.layout in
    let n = c.in_ok-width.width in
    let bits = bits_of n c.in-Some.high in
    let is = high_in l n c.in-Some.high c.in-Some.ensures.big c.in-Some.ensures.high c.in-Some.ensures.below in
    let long = length-bits_of n c.in-Some.high in
    let fits : SFits w128 c.sign_extend.result = search rules in
    signed_in_type c.args.number_type l bits _ c.requires.signed c.in_ok-width.ensures.ok.1 (long ∙ c.in_ok-width.ensures.ok.0)
    (to_z-of_z w128 c.sign_extend.result fits ∙ c.sign_extend.ensures ∙ signed_worth c.args.number_type l bits n c.in-Some.high c.requires.signed long is)

pub number_of_word-number-requires-clause-fits : goal.number_of_word-number-requires-clause-fits
number_of_word-number-requires-clause-fits g c = word_fits (word_read c.args.layout.order c.in_ok-width.width c.in_ok-word.ensures.reads)

pub sign_extend-requires-2-clause-below : goal.sign_extend-requires-2-clause-below
sign_extend-requires-2-clause-below g c =
    let r = word_read c.args.layout.order c.in_ok-width.width c.in_ok-word.ensures.reads in
    number_fits c.args.number_type c.args.layout r.bits c.in_ok-width.width c.number_of_word-number.result c.requires.signed c.in_ok-width.ensures.ok.1 r.long c.in_ok-width.ensures.ok.0
    (c.number_of_word-number.ensures r.bits r.long r.worth)

pub returns-in_err-word-clause-reads : goal.returns-in_err-word-clause-reads
returns-in_err-word-clause-reads g c =
    let p = err_from_is_err_and c.from_residual-in_err-word.result c.from_residual-in_err-word.ensures.1 in
    let same = c.try_take_number.ensures.stays (search rules) in
    rw (p.1, p.2, ← same)
    (number_refused c.args.number_type c.args.layout _ c.in_ok-width.ensures.ok.1 (word_refused c.args.layout.order c.in_ok-width.width c.in_err-word.ensures.reads) c.in_ok-width.ensures.ok.0)

pub returns-clause-reads : goal.returns-clause-reads
returns-clause-reads g c =
    let r = word_read c.args.layout.order c.in_ok-width.width c.in_ok-word.ensures.reads in
    let fits : SFits w128 c.sign_extend-2.result = search rules in
    let same = c.try_take_number.ensures.stays (search rules) in
    rw (← same, to_z-of_z w128 c.sign_extend-2.result fits ∙ c.sign_extend-2.ensures ∙ signed_worth c.args.number_type c.args.layout r.bits c.in_ok-width.width c.number_of_word-number.result c.requires.signed r.long (c.number_of_word-number.ensures r.bits r.long r.worth))
    (number_read c.args.number_type c.args.layout _ c.in_ok-width.ensures.ok.1 r.taken c.in_ok-width.ensures.ok.0)

pub returns-clause-fetched : goal.returns-clause-fetched
returns-clause-fetched g c =
    let same = c.try_take_number.ensures.stays (search rules) in
    rw (← same) (rw c.in_ok-width.ensures.ok.0 at c.in_ok-word.ensures.fetched)

pub returns-clause-in_type : goal.returns-clause-in_type
returns-clause-in_type g c =
    let r = word_read c.args.layout.order c.in_ok-width.width c.in_ok-word.ensures.reads in
    let fits : SFits w128 c.sign_extend-2.result = search rules in
    signed_in_type c.args.number_type c.args.layout r.bits _ c.requires.signed c.in_ok-width.ensures.ok.1 (r.long ∙ c.in_ok-width.ensures.ok.0)
    (to_z-of_z w128 c.sign_extend-2.result fits ∙ c.sign_extend-2.ensures ∙ signed_worth c.args.number_type c.args.layout r.bits c.in_ok-width.width c.number_of_word-number.result c.requires.signed r.long (c.number_of_word-number.ensures r.bits r.long r.worth))
