use Rattle.deku_program.proofs.Giving.{begun_either}
use Rattle.deku_fields.proofs.program.complain.Goals as goal

pub returns-in-Usage-clause-told : goal.returns-in-Usage-clause-told
returns-in-Usage-clause-told g c = rw c.in-Usage.is c.give_text.ensures.given

pub returns-in-Usage-clause-begun : goal.returns-in-Usage-clause-begun
returns-in-Usage-clause-begun g c = rw c.in-Usage.is (begun_either c.give_text.result _ _ _ c.give_text.ensures.given c.give_text.ensures.cut)

pub returns-in-BadText-clause-told : goal.returns-in-BadText-clause-told
returns-in-BadText-clause-told g c = rw c.in-BadText.is c.give_text-in-BadText.ensures.given

pub returns-in-BadText-clause-begun : goal.returns-in-BadText-clause-begun
returns-in-BadText-clause-begun g c = rw c.in-BadText.is (begun_either c.give_text-in-BadText.result _ _ _ c.give_text-in-BadText.ensures.given c.give_text-in-BadText.ensures.cut)

pub returns-in-Fault-clause-told : goal.returns-in-Fault-clause-told
returns-in-Fault-clause-told g c = rw c.in-Fault.is c.tell_fault.ensures.told

pub returns-in-Fault-clause-begun : goal.returns-in-Fault-clause-begun
returns-in-Fault-clause-begun g c = rw c.in-Fault.is c.tell_fault.ensures.begun
