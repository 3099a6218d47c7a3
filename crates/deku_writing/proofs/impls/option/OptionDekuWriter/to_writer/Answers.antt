use Rattle.deku_meanings.proofs.Joining.{answered}
use Rattle.deku_writing.proofs.impls.option.OptionDekuWriter.to_writer.Goals as goal

pub returns-in-None : goal.returns-in-None
returns-in-None g c = rw c.in-None.is answered
