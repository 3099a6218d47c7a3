use Rattle.std.proofs.Common.{sym, ◌∙◌}
use Rattle.deku_reading.proofs.Slots.{same_items}
use Rattle.deku_reading.proofs.CuttingEach.{seen_cut}
use Rattle.deku_reading.proofs.impls.array.AnyDekuReader.from_word.Goals as goal

pub returns : goal.returns
returns g c =
    let h = c.in_ok-bits.ensures in
    seen_cut g.X.ArrayLike.elements_of _ _ (same_items _ _ (sym h.3 ∙ c.turned.ensures)) h.1
