use Rattle.std.proofs.Common.{All, arith, rules}
use Rattle.std.proofs.lemmas.List.Elements.{All-from_get_or}
use Rattle.deku_stream.proofs.Bytes.{IsByte}
use Rattle.deku_stream.proofs.Windows.{how_many}
use Rattle.deku_stream.proofs.Across.{high_across, high_whole, high_below}
use Rattle.deku_stream.proofs.window.Window.take_high_across.Goals as goal

pub returns-then-count-eq0-clause-below : goal.returns-then-count-eq0-clause-below
returns-then-count-eq0-clause-below c = high_below c.from_be_bytes-number.result c.args.count (search rules) c.requires.few

pub returns-then-count-eq0-clause-cut : goal.returns-then-count-eq0-clause-cut
returns-then-count-eq0-clause-cut c =
    let w = how_many c.self.inside.len c.self.inside.bits c.args.self.now c.self.view_is in
    let all : All IsByte c.args.eight.now = All-from_get_or IsByte c.args.eight.now 0 (λ i inside. c.fits-eight i) in
    rw c.from_be_bytes-number.ensures
    (high_whole c.args.self.now c.args.eight.now c.args.count (omega arith) all (omega (arith, w, c.if-self-eq0.true)) (omega (arith, c.if-count-eq0.true)) c.requires.few)

pub returns-clause-cut : goal.returns-clause-cut
returns-clause-cut c =
    let all : All IsByte c.args.eight.now = All-from_get_or IsByte c.args.eight.now 0 (λ i inside. c.fits-eight i) in
    high_across c.args.self.now c.across_high.new.self c.args.eight.now c.args.count c.across_high.result (omega arith) all c.requires.more c.requires.few
    (rw c.from_be_bytes-number.ensures at c.across_high.ensures.cut)

pub overflow_sub-result : goal.overflow_sub-result
overflow_sub-result c = search rules

pub overflow_shr-result : goal.overflow_shr-result
overflow_shr-result c = search rules

pub same-self : goal.same-self
same-self c = search rules

pub same-self-2 : goal.same-self-2
same-self-2 c = search rules

pub across_high-requires-clause-short : goal.across_high-requires-clause-short
across_high-requires-clause-short c = search rules

pub across_high-requires-clause-more : goal.across_high-requires-clause-more
across_high-requires-clause-more c = search rules

pub across_high-requires-clause-few : goal.across_high-requires-clause-few
across_high-requires-clause-few c = search rules

pub returns-clause-below : goal.returns-clause-below
returns-clause-below c = search rules
