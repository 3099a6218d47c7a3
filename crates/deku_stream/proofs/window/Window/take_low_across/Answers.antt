use Rattle.std.proofs.Common.{All, arith}
use Rattle.std.proofs.lemmas.List.Elements.{All-from_get_or}
use Rattle.deku_stream.specs.declared.ctx.Order.TheVariants.{Lsb0}
use Rattle.deku_stream.proofs.Bytes.{IsByte}
use Rattle.deku_stream.proofs.Windows.{how_many}
use Rattle.deku_stream.proofs.Across.{word_across_low, low_bits_taken, low_whole}
use Rattle.deku_stream.proofs.window.Window.take_low_across.Goals as goal

pub returns-then-count-eq0 : goal.returns-then-count-eq0
returns-then-count-eq0 c =
    let w = how_many c.self.inside.len c.self.inside.bits c.args.self.now c.self.view_is in
    let taken = low_whole c.args.self.now c.args.eight.now c.args.count c.word_of_front.result (omega (arith, w, c.if-self-eq0.true)) (c.word_of_front.ensures Lsb0) in
    record { below = taken.0; cut = taken.1 }

pub returns : goal.returns
returns c =
    let all : All IsByte c.args.eight.now = All-from_get_or IsByte c.args.eight.now 0 (λ i inside. c.fits-eight i) in
    let taken = low_bits_taken c.args.self.now c.across_low.new.self _ c.args.count c.across_low.result
    (word_across_low c.args.self.now c.across_low.new.self c.args.eight.now c.args.count c.across_low.result (omega arith) all c.requires.more c.requires.few c.across_low.ensures.below
    (rw c.from_le_bytes.ensures at c.across_low.ensures.cut)) in
    record { below = taken.0; cut = taken.1 }
