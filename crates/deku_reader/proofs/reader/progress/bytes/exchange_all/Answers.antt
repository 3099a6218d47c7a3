use Rattle.std.proofs.lemmas.Grind.{elements}
use Rattle.std.proofs.Common.{ap₂, arith, rules, sym, ◌++◌, ◌∙◌}
use Rattle.std.proofs.lemmas.List.Elements.{All-append}
use Rattle.deku_stream.specs.Bits.{facing}
use Rattle.deku_stream.specs.Streams.{flow}
use Rattle.deku_stream.proofs.Bytes.{IsByte}
use Rattle.deku_reader.proofs.Handouts.{empty_through, parts_through}
use Rattle.deku_reader.proofs.reader.progress.bytes.exchange_all.Goals as goal

pub returns-then-len-eq0-clause-bits : goal.returns-then-len-eq0-clause-bits
returns-then-len-eq0-clause-bits c = empty_through c.args.order c.args.window.now c.args.dst.now (omega arith)

pub returns-clause-bits : goal.returns-clause-bits
returns-clause-bits c =
    ap₂ (λ w s. facing c.args.order w ++ flow c.args.order s) (sym c.copy-passing.ensures) c.split_at_mut-eights.ensures.value
    ∙ parts_through c.args.order c.copy-passing.result c.exchange_eights.new.passing c.exchange_each.new.passing c.split_at_mut-eights.result.0.now c.split_at_mut-eights.result.1.now
    c.exchange_eights.new.dst c.exchange_each.new.dst c.exchange_eights.ensures.bits c.exchange_each.ensures.bits

pub returns-clause-bytes : goal.returns-clause-bytes
returns-clause-bytes c = All-append IsByte c.exchange_eights.new.dst c.exchange_each.new.dst c.exchange_eights.ensures.bytes c.exchange_each.ensures.bytes

pub returns-then-len-eq0-clause-bytes : goal.returns-then-len-eq0-clause-bytes
returns-then-len-eq0-clause-bytes c = grind (arith, elements)

pub returns-then-len-eq0-clause-len : goal.returns-then-len-eq0-clause-len
returns-then-len-eq0-clause-len c = search rules

pub overflow_mul-dst : goal.overflow_mul-dst
overflow_mul-dst c = search rules

pub exchange_eights-requires : goal.exchange_eights-requires
exchange_eights-requires c = search rules

pub both_followed-dst : goal.both_followed-dst
both_followed-dst c = search rules

pub slice_back_joined-dst : goal.slice_back_joined-dst
slice_back_joined-dst c = search rules

pub returns-clause-len : goal.returns-clause-len
returns-clause-len c = search rules
