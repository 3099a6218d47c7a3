-- What is known of a run.
use Rattle.std.proofs.Common.{◌≡◌, ◌≤◌, ℕ, List, Option, refl, subst, arith}
use Rattle.deku_program.specs.Outputs.{IsBegun}
use Rattle.deku_formats_program.specs.declared.program.Failure.{Failure}
use Rattle.deku_formats_program.specs.declared.program.Failure.TheVariants.{Usage, BadText, Fault, Refused}
use Rattle.deku_formats_program.specs.Runs.{status_of, message}

-- the status is 2 for the usage alone
pub usage_is : (f : Failure) → status_of f ≡ 2 → f ≡ Usage
usage_is Usage e = refl
usage_is BadText e = absurd (omega (arith, e))
usage_is (Fault fault) e = absurd (omega (arith, e))
usage_is (Refused fault field bit) e = absurd (omega (arith, e))

-- the usage is known where the status is 2
pub usage_told : (f : Failure) (a b : Option (List ℕ)) → status_of f ≡ 2 → IsBegun a b (message f) → IsBegun a b (message Usage)
usage_told f a b e told = subst (λ x. IsBegun a b (message x)) (usage_is f e) told

-- a failure has a status from 1 to 2
pub status_within : (f : Failure) → (1 ≤ status_of f) × (status_of f ≤ 2)
status_within Usage = (omega arith, omega arith)
status_within BadText = (omega arith, omega arith)
status_within (Fault fault) = (omega arith, omega arith)
status_within (Refused fault field bit) = (omega arith, omega arith)
