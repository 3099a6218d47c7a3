use Rattle.std.proofs.Common.{refl, ap, ◌∙◌, sym, subst, arith}
use Rattle.deku_bits.proofs.Handing.{unbroken}
use Rattle.deku_reading.specs.Cutting.{IsReadOf}
use Rattle.deku_reading.proofs.Cutting.{ok_same, no_value, reads_fresh, made_of}
use Rattle.deku_reading.proofs.items.each_of.Goals as goal

pub unreachable-requires : goal.unreachable-requires
unreachable-requires g c =
    let start = reads_fresh c.new-reader.result.source _ c.new-reader.result.state (ap (λ k. k.inner) c.new-reader.ensures.source ∙ c.new.ensures.inner) (ap (λ k. k.pos) c.new-reader.ensures.source ∙ c.new.ensures.position) c.new-reader.ensures.state in
    let made = made_of (g.T.Items.meaning c.args.ctx) c.args.order c.args.bits c.args.word _ _ c.requires.number c.requires.few c.requires.below (omega arith) c.word_bytes-eight.ensures start _ _ (unbroken refl refl c.in-Err.ensures.reads) in
    no_value made.1

pub returns : goal.returns
returns g c =
    let start = reads_fresh c.new-reader.result.source _ c.new-reader.result.state (ap (λ k. k.inner) c.new-reader.ensures.source ∙ c.new.ensures.inner) (ap (λ k. k.pos) c.new-reader.ensures.source ∙ c.new.ensures.position) c.new-reader.ensures.state in
    let made = made_of (g.T.Items.meaning c.args.ctx) c.args.order c.args.bits c.args.word _ _ c.requires.number c.requires.few c.requires.below (omega arith) c.word_bytes-eight.ensures start _ _ (unbroken refl refl c.in-Ok.ensures.reads) in
    subst (IsReadOf (g.T.Items.meaning c.args.ctx) c.args.order c.args.bits c.args.word) (sym (ok_same made.1)) made.2
