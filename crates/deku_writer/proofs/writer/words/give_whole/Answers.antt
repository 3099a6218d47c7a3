use Rattle.std.proofs.Common.{◌≡◌, ◌∙◌, ◌/◌, take, ap, arith}
use Rattle.deku_writer.specs.Pushing.{low_bytes}
use Rattle.deku_writer.proofs.Joined.{long_first, first_low}
use Rattle.deku_writer.proofs.writer.words.give_whole.Goals as goal

pub returns-clause-gave : goal.returns-clause-gave
returns-clause-gave g c =
    let n = c.args.n / 8 in
    let e : take (c.args.n / 8) c.to_le_bytes.result ≡ low_bytes (c.args.n / 8) c.args.word =
    ap (take n) (c.to_le_bytes.ensures ∙ long_first c.args.word) ∙ first_low 16 n c.args.word (omega (arith, c.requires.most)) in
    rw (← e) c.give_out.ensures.gave

pub returns-clause-fault : goal.returns-clause-fault
returns-clause-fault g c =
    let n = c.args.n / 8 in
    let e : take (c.args.n / 8) c.to_le_bytes.result ≡ low_bytes (c.args.n / 8) c.args.word =
    ap (take n) (c.to_le_bytes.ensures ∙ long_first c.args.word) ∙ first_low 16 n c.args.word (omega (arith, c.requires.most)) in
    rw (← e) c.give_out.ensures.fault
