use Rattle.std.proofs.Common.{All, arith, rules}
use Rattle.std.proofs.lemmas.List.Elements.{All-from_get_or}
use Rattle.deku_stream.proofs.Bytes.{IsByte}
use Rattle.deku_stream.proofs.Across.{word_across_high, word_across_low}
use Rattle.deku_stream.proofs.window.Window.take_across.Goals as goal

pub returns-in-Msb0 : goal.returns-in-Msb0
returns-in-Msb0 c =
    let all : All IsByte c.args.eight.now = All-from_get_or IsByte c.args.eight.now 0 (λ i inside. c.fits-eight i) in
    rw c.in-Msb0.is
    (word_across_high c.args.self.now c.across_high-number.new.self c.args.eight.now c.args.count c.across_high-number.result c.word_of_high.result (omega arith) all c.requires.more c.requires.few
    (rw c.from_be_bytes.ensures at c.across_high-number.ensures.cut) c.word_of_high.ensures)

pub returns-in-Lsb0 : goal.returns-in-Lsb0
returns-in-Lsb0 c =
    let all : All IsByte c.args.eight.now = All-from_get_or IsByte c.args.eight.now 0 (λ i inside. c.fits-eight i) in
    rw c.in-Lsb0.is
    (word_across_low c.args.self.now c.across_low.new.self c.args.eight.now c.args.count c.across_low.result (omega arith) all c.requires.more c.requires.few c.across_low.ensures.below
    (rw c.from_le_bytes.ensures at c.across_low.ensures.cut))

pub across_high-number-requires-clause-short : goal.across_high-number-requires-clause-short
across_high-number-requires-clause-short c = search rules

pub across_high-number-requires-clause-more : goal.across_high-number-requires-clause-more
across_high-number-requires-clause-more c = search rules

pub across_high-number-requires-clause-few : goal.across_high-number-requires-clause-few
across_high-number-requires-clause-few c = search rules

pub word_of_high-requires-clause-few : goal.word_of_high-requires-clause-few
word_of_high-requires-clause-few c = search rules

pub word_of_high-requires-clause-below : goal.word_of_high-requires-clause-below
word_of_high-requires-clause-below c = search rules

pub across_low-requires-clause-short : goal.across_low-requires-clause-short
across_low-requires-clause-short c = search rules

pub across_low-requires-clause-more : goal.across_low-requires-clause-more
across_low-requires-clause-more c = search rules

pub across_low-requires-clause-few : goal.across_low-requires-clause-few
across_low-requires-clause-few c = search rules
