use Rattle.std.proofs.Common.{arith, refl, rules, sym, ◌+◌, ◌-◌, ◌<◌, ◌∙◌, ◌≡◌}
use Rattle.deku_stream.specs.Bits.{byte_bits}
use Rattle.deku_stream.proofs.Binary.{length-bits_of}
use Rattle.deku_writer.proofs.Fills.{fills_one}
use Rattle.deku_writer.proofs.writer.held.Held.pass.Goals as goal

pub returns-clause-fills : goal.returns-clause-fills
unfolding byte_bits
returns-clause-fills c =
    let byte : c.split-first.result.0 < 256 = omega arith in
    let back : c.self.inside.len + 8 - 8 ≡ c.self.inside.len = omega arith in
    let cut = rw back at c.split-first.ensures.bits in
    rw (← c.self.view_is) (fills_one c.args.order _ _ _ c.split-first.result.0 (sym c.join-joined.ensures.bits ∙ cut) byte (rw length-bits_of c.self.invariant.0))

pub returns-clause-len : goal.returns-clause-len
returns-clause-len c = rw (← c.self.view_is) (rw (length-bits_of, length-bits_of) refl)

pub join-joined-requires-clause-short : goal.join-joined-requires-clause-short
join-joined-requires-clause-short c = search rules

pub join-joined-requires-clause-size : goal.join-joined-requires-clause-size
join-joined-requires-clause-size c = search rules

pub join-joined-requires-clause-first : goal.join-joined-requires-clause-first
join-joined-requires-clause-first c = search rules

pub join-joined-requires-clause-second : goal.join-joined-requires-clause-second
join-joined-requires-clause-second c = search rules

pub overflow_add-self-inside : goal.overflow_add-self-inside
overflow_add-self-inside c = search rules

pub split-first-requires-clause-whole : goal.split-first-requires-clause-whole
split-first-requires-clause-whole c = search rules

pub split-first-requires-clause-short : goal.split-first-requires-clause-short
split-first-requires-clause-short c = search rules

pub split-first-requires-clause-inside : goal.split-first-requires-clause-inside
split-first-requires-clause-inside c = search rules

pub invariant_of-self : goal.invariant_of-self
invariant_of-self c = search rules
