use Rattle.std.proofs.Common.{◌≡◌, ◌∙◌, ◌/◌, take, ap, arith, subst}
use Rattle.deku_device.specs.Devices.{Gave}
use Rattle.deku_writer.specs.Pushing.{low_bytes}
use Rattle.deku_writer.proofs.Joined.{low_first, first_low}
use Rattle.deku_writer.proofs.writer.words.lay_whole.Goals as goal

pub returns-clause-gave : goal.returns-clause-gave
returns-clause-gave g c laid =
    let n = c.args.n / 8 in
    let e : take (c.args.n / 8) c.to_le_bytes.result ≡ low_bytes (c.args.n / 8) c.args.word =
    ap (take n) (c.to_le_bytes.ensures ∙ low_first c.args.word) ∙ first_low 8 n c.args.word (omega (arith, c.requires.most)) in
    subst (λ x. Gave (g.W.Sink.known c.args.sink.now) (g.W.Sink.known c.try_put.new.self) x) e (c.try_put.ensures.gave laid)
