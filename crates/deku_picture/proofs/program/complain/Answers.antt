use Rattle.std.proofs.Common.{refl}
use Rattle.deku_program.proofs.Giving.{begun_either}
use Rattle.deku_picture.proofs.program.complain.Goals as goal

pub returns-in-Usage : goal.returns-in-Usage
returns-in-Usage g c = rw c.in-Usage.is (_, refl, begun_either c.give_text.result _ _ _ c.give_text.ensures.given c.give_text.ensures.cut)

pub returns-in-NoField : goal.returns-in-NoField
returns-in-NoField g c = rw c.in-NoField.is c.complain_of.ensures

pub returns-in-BadText : goal.returns-in-BadText
returns-in-BadText g c = rw c.in-BadText.is (_, refl, begun_either c.give_text-in-BadText.result _ _ _ c.give_text-in-BadText.ensures.given c.give_text-in-BadText.ensures.cut)

pub returns-in-Fault : goal.returns-in-Fault
returns-in-Fault g c = rw c.in-Fault.is (_, refl, c.tell_fault.ensures.begun)
