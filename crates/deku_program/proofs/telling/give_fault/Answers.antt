use Rattle.std.proofs.Common.{ap, ◌++◌, codes, append-nil}
use Rattle.deku_program.proofs.Giving.{given_same}
use Rattle.deku_program.proofs.telling.give_fault.Goals as goal

pub returns-in-InvalidParam-clause-given : goal.returns-in-InvalidParam-clause-given
returns-in-InvalidParam-clause-given g c = rw c.in-InvalidParam.is (given_same c.give_parts-in-InvalidParam.result _ _ _ _ (ap (λ t. codes "Invalid param error: " ++ t) (append-nil c.in-InvalidParam.text.now)) c.give_parts-in-InvalidParam.ensures.given)

pub returns-in-IdVariantNotFound-clause-given : goal.returns-in-IdVariantNotFound-clause-given
returns-in-IdVariantNotFound-clause-given g c = rw c.in-IdVariantNotFound.is c.give_parts-in-IdVariantNotFound.ensures.given
