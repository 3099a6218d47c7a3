use Rattle.std.proofs.Common.{◌≡◌, ◌<◌, ◌+◌, ◌/◌, ◌%◌, ◌∙◌, length, take, sym, ap, arith, mod-lt}
use Rattle.std.proofs.lemmas.List.Elements.{All-take}
use Rattle.deku_stream.specs.Bits.{bits_of}
use Rattle.deku_stream.proofs.Binary.{length-bits_of}
use Rattle.deku_stream.proofs.Bytes.{IsByte}
use Rattle.deku_writer.proofs.Joined.{fills_bytes}
use Rattle.deku_writer.proofs.writer.held.Held.fill_number.Goals as goal

pub join_number-joined-requires-clause-first : goal.join_number-joined-requires-clause-first
join_number-joined-requires-clause-first c =
    let l : c.self.inside.len ≡ c.len-before.result = sym (length-bits_of c.self.inside.len c.self.inside.number) ∙ ap length c.self.view_is ∙ sym c.len-before.ensures.length in
    rw (← l) c.self.invariant.1

pub returns-clause-rest : goal.returns-clause-rest
returns-clause-rest c =
    length-bits_of ((c.len-before.result + c.args.n) % 8) c.cut_word-last.result.1 ∙ ap (λ x. (x + c.args.n) % 8) c.len-before.ensures.length

pub returns-clause-fills : goal.returns-clause-fills
returns-clause-fills c =
    let k = (c.len-before.result + c.args.n) / 8 in
    let r = (c.len-before.result + c.args.n) % 8 in
    let l : c.self.inside.len ≡ c.len-before.result = sym (length-bits_of c.self.inside.len c.self.inside.number) ∙ ap length c.self.view_is ∙ sym c.len-before.ensures.length in
    let front : bits_of c.len-before.result c.self.inside.number ≡ c.args.self.now = ap (λ i. bits_of i c.self.inside.number) (sym l) ∙ c.self.view_is in
    let short : length (bits_of r c.cut_word-last.result.1) < 8 = rw length-bits_of (mod-lt (c.len-before.result + c.args.n) (omega arith)) in
    rw (← front)
    (fills_bytes c.args.order _ _ _ (take k c.cut_word-last.result.0) (sym c.join_number-joined.ensures.bits ∙ c.cut_word-last.ensures.bits)
    (All-take IsByte k c.cut_word-last.result.0 c.cut_word-last.ensures.bytes) short)
