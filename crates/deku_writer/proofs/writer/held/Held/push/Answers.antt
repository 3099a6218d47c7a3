use Rattle.std.proofs.Common.{arith, rules, sym, ◌<◌, ◌∙◌}
use Rattle.deku_stream.proofs.Binary.{length-bits_of}
use Rattle.deku_writer.proofs.Fills.{fills_none, fills_one}
use Rattle.deku_writer.proofs.writer.held.Held.push.Goals as goal

pub returns-then-len-lt8 : goal.returns-then-len-lt8
returns-then-len-lt8 c =
    rw (← c.self.view_is) (fills_none c.args.order _ _ _ c.join-joined.ensures.bits (rw length-bits_of c.if-len-lt8.true))

pub returns : goal.returns
returns c =
    let byte : c.split-byte.result.0 < 256 = omega arith in
    rw (← c.self.view_is) (fills_one c.args.order _ _ _ c.split-byte.result.0 (sym c.join-joined.ensures.bits ∙ c.split-byte.ensures.bits) byte (rw length-bits_of (omega arith)))

pub join-joined-requires-clause-short : goal.join-joined-requires-clause-short
join-joined-requires-clause-short c = search rules

pub join-joined-requires-clause-size : goal.join-joined-requires-clause-size
join-joined-requires-clause-size c = search rules

pub join-joined-requires-clause-first : goal.join-joined-requires-clause-first
join-joined-requires-clause-first c = search rules

pub join-joined-requires-clause-second : goal.join-joined-requires-clause-second
join-joined-requires-clause-second c = search rules

pub overflow_add-len : goal.overflow_add-len
overflow_add-len c = search rules

pub overflow_cast-self : goal.overflow_cast-self
overflow_cast-self c = search rules

pub invariant_of-self : goal.invariant_of-self
invariant_of-self c = search rules

pub split-byte-requires-clause-whole : goal.split-byte-requires-clause-whole
split-byte-requires-clause-whole c = search rules

pub split-byte-requires-clause-short : goal.split-byte-requires-clause-short
split-byte-requires-clause-short c = search rules

pub split-byte-requires-clause-inside : goal.split-byte-requires-clause-inside
split-byte-requires-clause-inside c = search rules

pub invariant_of-self-2 : goal.invariant_of-self-2
invariant_of-self-2 c = search rules
