-- What a device reports of its failures and of all its bytes, one call after the other.
use Rattle.std.proofs.Common.{ℕ, Option, Some, None, refl, ◌∙◌, arith}
use Rattle.deku_device.specs.Devices.{Health, NotFewer, More, DeviceKept, DeviceFailed}
use Rattle.deku_device.proofs.Wholes.{onward_on, onward_same}

not_fewer_on : (f g h : Option ℕ) → NotFewer f g → NotFewer g h → NotFewer f h
not_fewer_on None g h p q = tt
not_fewer_on (Some a) None h p q = absurd p
not_fewer_on (Some a) (Some b) None p q = absurd q
not_fewer_on (Some a) (Some b) (Some c) p q = omega arith

more_later : (f g h : Option ℕ) → NotFewer f g → More g h → More f h
more_later None g h p q = tt
more_later (Some a) None h p q = absurd p
more_later (Some a) (Some b) None p q = absurd q
more_later (Some a) (Some b) (Some c) p q = omega arith

not_fewer_same : (f : Option ℕ) → NotFewer f f
not_fewer_same None = tt
not_fewer_same (Some a) = omega arith

-- two calls that forget no failure
pub no_fewer_on : (f g h : Health) → DeviceKept f g → DeviceKept g h → DeviceKept f h
no_fewer_on f g h p q = record { failures = not_fewer_on f.failures g.failures h.failures p.failures q.failures; lenders = q.lenders ∙ p.lenders; whole = onward_on f.whole g.whole h.whole p.whole q.whole }

-- a call that forgets no failure, and one that fails
pub more_on : (f g h : Health) → DeviceKept f g → DeviceFailed g h → DeviceFailed f h
more_on f g h p q = record { failures = more_later f.failures g.failures h.failures p.failures q.failures; lenders = q.lenders ∙ p.lenders; whole = onward_on f.whole g.whole h.whole p.whole q.whole }

-- no call
pub no_fewer_same : (f : Health) → DeviceKept f f
no_fewer_same f = record { failures = not_fewer_same f.failures; lenders = refl; whole = onward_same f.whole }
