use Rattle.std.proofs.Common.{All, arith, rules}
use Rattle.std.proofs.lemmas.List.Elements.{All-from_get_or}
use Rattle.deku_stream.proofs.Bytes.{IsByte}
use Rattle.deku_stream.proofs.Across.{word_whole}
use Rattle.deku_stream.proofs.window.word_of_front.Goals as goal

pub returns : goal.returns
returns c = λ order.
    let all : All IsByte c.args.eight.now = All-from_get_or IsByte c.args.eight.now 0 (λ i inside. c.fits-eight i) in
    rw c.from_le_bytes.ensures (word_whole order c.args.eight.now c.args.count (omega arith) all c.requires.whole c.requires.few)

pub overflow_sub-above : goal.overflow_sub-above
overflow_sub-above c = search rules

pub overflow_shl-result : goal.overflow_shl-result
overflow_shl-result c = search rules

pub overflow_shr-result : goal.overflow_shr-result
overflow_shr-result c = search rules
