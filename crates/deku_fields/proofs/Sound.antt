-- Devices that say of their failures, of which none came.
use Rattle.std.proofs.Common.{false, Option, Some, Result, [], refl, arith}
use Rattle.deku_bits.specs.declared.error.DekuError.{DekuError}
use Rattle.deku_bits.specs.Devices.{Health, Whole}
use Rattle.deku_bits.specs.Standings.{Standing}
use Rattle.deku_bits.specs.Outcomes.{Meaning, Outcome, Quiet, Broken}
use Rattle.deku_fields.specs.Promise.{Unfailing}

-- the outcome is what the meaning lets come where no device fails
pub sound : {A V : Type 0} {m : Meaning A V} {s : Standing A} {f : Health} {r : Result V DekuError} {u : Standing A} {g : Health}
    → Outcome m s f r u g → Unfailing f g → m false s r u
sound (Quiet m k) calm = m
sound (Broken a m k) calm = let h = rw (calm.known, calm.still) at k.failures in absurd (omega (arith, h))

-- memory reports that no call failed
pub sound_memory : {w v : Option Whole} → Unfailing (record { failures = Some 0; lenders = []; whole = w }) (record { failures = Some 0; lenders = []; whole = v })
sound_memory = record { count = 0; known = refl; still = refl }
