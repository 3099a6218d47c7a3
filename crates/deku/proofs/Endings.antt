-- Texts and the zero after them.
use Rattle.std.proofs.Common.{ℕ, Result, Ok, Err, List, refl, ap}
use Rattle.std.specs.Result.{IfOk, IfErr}
use Rattle.deku_bits.specs.declared.error.DekuError.{DekuError}
use Rattle.deku_bits.specs.declared.error.DekuError.TheVariants.{Parse}
use Rattle.deku_bits.specs.Devices.{Health}
use Rattle.deku_bits.specs.Faults.{Tells}
use Rattle.deku_bits.specs.Standings.{Standing}
use Rattle.deku_bits.specs.Outcomes.{Outcome, Quiet}
use Rattle.deku_bits.proofs.Handing.{no_fewer_same}
use Rattle.std.specs.Prelude.{codes}
use Rattle.deku.specs.Texts.{IsTerminated, Unended, Text, NoText}

pub unended : {A : Type 0} (bytes : List ℕ) (r : Result (List ℕ) DekuError) (s : Standing A) (f : Health)
    → IfOk r (λ text. IsTerminated text bytes) → IfErr r (λ e. ((text : List ℕ) → IsTerminated text bytes → ⊥) × Tells Parse (codes "Failed to convert Vec to CString") e)
    → Outcome (Unended bytes) s f r s f
unended bytes (Ok text) s f p q = Quiet (Text text p) (no_fewer_same f)
unended bytes (Err e) s f p q = let t = q.1 in Quiet (NoText q.0 (t.words, t.says, ap Err t.is, refl)) (no_fewer_same f)
