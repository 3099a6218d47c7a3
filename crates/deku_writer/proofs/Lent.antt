-- What is known through a reference is known of what it refers to.
use Rattle.std.proofs.Common.{◌≡◌, List, ◌∷◌, refl, sym, Result}
use Rattle.std.specs.Borrow.{GName}
use Rattle.deku_stream.specs.declared.error.DekuError.{DekuError}
use Rattle.deku_device.specs.Devices.{KnownSink}
use Rattle.deku_stream.specs.Writers.{Pending}
use Rattle.deku_stream.specs.Standings.{Standing, Going, Stopped, Output, writer_state}
use Rattle.deku_stream.specs.Outcomes.{Meaning, Quiet, Broken}
use Rattle.deku_writer.specs.WriterCalls.{WritesAt}

-- what is known through a reference
abbrev pub lent : GName → KnownSink → KnownSink
lent a t = record { taken = t.taken; room = t.room; health = record { failures = t.health.failures; lenders = a ∷ t.health.lenders; whole = t.health.whole } }

first : {A : Type 0} (x y : A) (xs ys : List A) → x ∷ xs ≡ y ∷ ys → x ≡ y
first x y xs ys e = cc

rest : {A : Type 0} (x y : A) (xs ys : List A) → x ∷ xs ≡ y ∷ ys → xs ≡ ys
rest x y xs ys e = cc

state_lent : (a : GName) (t : KnownSink) (u : Standing Pending) → writer_state (lent a t) u ≡ writer_state t u
state_lent a t (Going p c) = refl
state_lent a t (Stopped p e c) = refl

module _ (m : Meaning Output (Unit {0})) (t after : KnownSink) (a b : GName) (s : Standing Pending) (r : Result (Unit {0}) DekuError) (u : Standing Pending) where
  -- the reference is the same
  pub lender_stays : WritesAt m (lent a t) s r (lent b after) u → a ≡ b
  lender_stays o = elim o [
    | Quiet q n ↦ sym (first b a after.health.lenders t.health.lenders n.lenders)
    | Broken f q n ↦ sym (first b a after.health.lenders t.health.lenders n.lenders)
  ]

  pub lent_through : WritesAt m (lent a t) s r (lent b after) u → WritesAt m t s r after u
  lent_through o = elim (rw (state_lent a t s, state_lent b after u) at o) [
    | Quiet q n ↦ Quiet q (record { failures = n.failures; lenders = rest b a after.health.lenders t.health.lenders n.lenders; whole = n.whole })
    | Broken f q n ↦ Broken f q (record { failures = n.failures; lenders = rest b a after.health.lenders t.health.lenders n.lenders; whole = n.whole })
  ]
