use Rattle.deku.proofs.OfBits.{mapped_cut}
use Rattle.deku_symmetry.proofs.fields.LsbBeDekuReaderUnit.from_word.Goals as goal

pub returns : goal.returns
returns g c = mapped_cut _ c.args.order _ (λ v. record { 0 = v }) c.args.word c.args.room c.in_ok-value.value c.in_ok-value.ensures
