-- How tuples, types that hold one item, and types that represent a number are made of these.
use Rattle.std.specs.Prelude.{◌≡◌, ℕ, Bool, false, List, Option, None, Some, Result, Ok, Err, pos, if◌then◌else◌}
use Rattle.std.specs.declared.io.ErrorKind.TheVariants.{OutOfMemory}
use Rattle.std.specs.declared.net.ip_addr.IpAddr.{IpAddr}
use Rattle.std.specs.declared.net.ip_addr.IpAddr.TheVariants.{V4, V6}
use Rattle.std.specs.Net.Addr.{ipv4_bits, ipv6_bits}
use Rattle.deku_bits.specs.declared.error.DekuError.{DekuError}
use Rattle.deku_bits.specs.declared.error.DekuError.TheVariants.{Parse, Io}
use Rattle.deku_bits.specs.Standings.{Standing, Output}
use Rattle.deku_bits.specs.Outcomes.{Meaning, Refuses}
use Rattle.deku_num.specs.declared.ctx.Layout.{Layout}
use Rattle.deku_num.specs.Numbers.{unsigned}
use Rattle.deku_num.specs.NumberCalls.{Checked, WritesNumber}
use Rattle.deku_meanings.specs.Composing.{Answer}

-- m of the item, if there is one. Otherwise nothing moves.
abbrev pub IfHeld : {A T : Type 0} → (T → Meaning A (Unit {0})) → Option T → Meaning A (Unit {0})
IfHeld m None = Answer tt
IfHeld m (Some v) = m v

-- A value that h maps to v, and nothing moves.
pub data Shows {A V W : Type 0} (h : W → V) (v : V) : Bool → Standing A → Result W DekuError → Standing A → Type 0 where
  Shown : {s : Standing A} {w : W} → h w ≡ v → Shows h v false s (Ok w) s

-- Out of memory, and nothing moves.
abbrev pub LacksMemory : {A V : Type 0} → Standing A → Result V DekuError → Standing A → Type 0
LacksMemory s r u = (r ≡ Err (Io OutOfMemory)) × (u ≡ s)

-- The value that h maps to v. If v is one of none, it fails with this text, and nothing moves.
abbrev pub ShowsUnless : {A V W : Type 0} → (V → Type 0) → List ℕ → (W → V) → V → Meaning A W
ShowsUnless none text h v = Checked (λ s r u. none v × Refuses Parse text s r u) (Shows h v)

-- 0 for false, 1 for true.
abbrev pub numeral : Bool → ℕ
numeral b = if b then 1 else 0

-- An address is written as the number of its own family.
abbrev pub WritesAddress : Layout → IpAddr → Meaning Output (Unit {0})
WritesAddress l (V4 a) = WritesNumber (unsigned 32) l (pos (ipv4_bits a))
WritesAddress l (V6 a) = WritesNumber (unsigned 128) l (pos (ipv6_bits a))
