-- Outcomes of the types that hold one item, and of those that stand for numbers.
use Rattle.std.proofs.Common.{◌≡◌, ℕ, List, Result, Ok, Err, refl}
use Rattle.std.specs.Borrow.{Bor}
use Rattle.std.specs.declared.io.ErrorKind.TheVariants.{OutOfMemory}
use Rattle.deku_bits.specs.declared.error.DekuError.{DekuError}
use Rattle.deku_bits.specs.declared.error.DekuError.TheVariants.{Parse, Io}
use Rattle.deku_bits.specs.Devices.{Health}
use Rattle.deku_bits.specs.Standings.{Standing}
use Rattle.deku_bits.specs.Outcomes.{Meaning, Outcome, Quiet}
use Rattle.deku_bits.proofs.Handing.{no_fewer_same}
use Rattle.deku_num.specs.NumberCalls.{Checked, Refused, Passed}
use Rattle.deku_meanings.specs.Shapes.{Shows, Shown, ShowsUnless, LacksMemory}

-- a value is found that shows as v
pub shown : {A V W : Type 0} {h : W → V} {v : V} {w : W} {s : Standing A} {f : Health} → h w ≡ v → Outcome (Shows h v) s f (Ok w) s f
shown {f} e = Quiet (Shown e) (no_fewer_same f)

-- the same, after a check
pub shown_behind : {A V W : Type 0} {refuses : Standing A → Result W DekuError → Standing A → Type 0} {h : W → V} {v : V} {w : W} {s : Standing A} {f : Health}
    → h w ≡ v → Outcome (Checked refuses (Shows h v)) s f (Ok w) s f
shown_behind {f} e = Quiet (Passed (Shown e)) (no_fewer_same f)

-- v stands for no value
pub denied : {A V W : Type 0} (none : V → Type 0) {text : List ℕ} (h : W → V) {v : V} {s : Standing A} {f : Health} (words : Bor (List ℕ))
    → words.now ≡ text → none v → Outcome (ShowsUnless none text h v) s f (Err (Parse words)) s f
denied none h {f} words e p = Quiet (Refused refl (p, (words, e, refl, refl))) (no_fewer_same f)

-- no memory is found
pub no_memory : {A V : Type 0} {m : Meaning A V} {s : Standing A} {f : Health} → Outcome (Checked LacksMemory m) s f (Err (Io OutOfMemory)) s f
no_memory {f} = Quiet (Refused refl (refl, refl)) (no_fewer_same f)
