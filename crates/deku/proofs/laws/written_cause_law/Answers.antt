use Rattle.deku_bits.specs.Causes.{WantsPlace}
use Rattle.deku.proofs.Causes.{then, each}
use Rattle.deku.proofs.laws.written_cause_law.Goals as goal

pub returns-clause-both : goal.returns-clause-both
returns-clause-both g c a b x p q = then WantsPlace _ _ p (λ _. q)

pub returns-clause-each : goal.returns-clause-each
returns-clause-each g c vs x p = each WantsPlace _ vs p
