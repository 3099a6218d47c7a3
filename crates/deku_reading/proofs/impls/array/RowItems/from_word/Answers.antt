use Rattle.deku_reading.proofs.OfBits.{mapped_cut}
use Rattle.deku_reading.proofs.impls.array.RowItems.from_word.Goals as goal

pub returns : goal.returns
returns g c = mapped_cut _ c.args.order _ (λ a. record { 0 = a }) c.args.word c.args.room c.in_ok-items.items c.in_ok-items.ensures
