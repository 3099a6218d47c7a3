-- What a call on a reader or a writer may return, and what it leaves.
use Rattle.std.specs.Prelude.{◌≡◌, ◌⊎◌, ⊤, ℕ, ◌+◌, ◌<◌, ◌≤◌, ◌^◌, Bool, true, false, List, Result, Ok, Err, codes}
use Rattle.std.specs.Borrow.{Bor}
use Rattle.std.specs.declared.io.ErrorKind.{ErrorKind}
use Rattle.std.specs.declared.io.ErrorKind.TheVariants.{OutOfMemory}
use Rattle.deku_stream.specs.declared.error.DekuError.{DekuError}
use Rattle.deku_stream.specs.declared.error.DekuError.TheVariants.{InvalidParam, Io}
use Rattle.deku_device.specs.Devices.{Health, DeviceKept, DeviceFailed}
use Rattle.deku_stream.specs.Standings.{Standing, Going, Stopped}

-- Which results each standing allows, and the standing after each: with `false` if no device fails,
-- and with `true` if one does.
abbrev pub Meaning : Type 0 → Type 0 → Type 1
Meaning A V = Bool → Standing A → Result V DekuError → Standing A → Type 0

-- A failure of the device, which is returned and kept.
pub record Faults {A V : Type 0} (r : Result V DekuError) (u : Standing A) : Type 0 where
  pub kind : ErrorKind
  pub count : ℕ
  pub left : A
  pub answered : r ≡ Err (Io kind)
  pub kept : u ≡ Stopped left (Io kind) count

-- A result of the meaning; or a failure of the device that the meaning allows, after which the
-- count of failures is larger, if it is known.
pub data Outcome {A V : Type 0} (m : Meaning A V) (s : Standing A) (f : Health) (r : Result V DekuError) (u : Standing A) (g : Health) : Type 0 where
  Quiet : m false s r u → DeviceKept f g → Outcome m s f r u g
  Broken : Faults r u → m true s r u → DeviceFailed f g → Outcome m s f r u g

-- A failure of the device, which keeps this count and leaves what is allowed.
abbrev pub Breaks : {A V : Type 0} → (A → Type 0) → ℕ → Result V DekuError → Standing A → Type 0
Breaks {A = A} leaves c r u = (kind : ErrorKind) × (r ≡ Err (Io kind)) × (left : A) × leaves left × (u ≡ Stopped left (Io kind) c)

-- What a failure leaves is not known.
abbrev pub Unknown : {A : Type 0} → A → A → Type 0
Unknown a left = ⊤

-- What continues moves as stated, or a failure of the device leaves what is allowed. What has
-- stopped returns its error again, and stays.
abbrev pub UnlessStopped : {A V : Type 0} → (A → A → Type 0) → (A → ℕ → Result V DekuError → Standing A → Type 0) → Meaning A V
UnlessStopped leaves moves false (Going a c) r u = moves a c r u
UnlessStopped leaves moves true (Going a c) r u = Breaks (leaves a) c r u
UnlessStopped leaves moves false (Stopped a e c) r u = (r ≡ Err e) × (u ≡ Stopped a e c)
UnlessStopped leaves moves true (Stopped a e c) r u = ⊥

-- Fails with this text, and nothing changes.
abbrev pub Refuses : {A V : Type 0} → (Bor (List ℕ) → DekuError) → List ℕ → Standing A → Result V DekuError → Standing A → Type 0
Refuses refusal text s r u = (words : Bor (List ℕ)) × (words.now ≡ text) × (r ≡ Err (refusal words)) × (u ≡ s)

-- n more bits are counted. If the count has no room for them, it fails, and nothing changes.
abbrev pub CountsBits : {A V : Type 0} → ℕ → (A → ℕ → Result V DekuError → Standing A → Type 0) → A → ℕ → Result V DekuError → Standing A → Type 0
CountsBits n moves a c r u = ((2 ^ 64 ≤ c + n) × Refuses InvalidParam (codes "count past usize") (Going a c) r u) ⊎ ((c + n < 2 ^ 64) × moves a c r u)

-- Memory is taken first. If there is none, it fails, and nothing changes.
abbrev pub Reserving : {A V : Type 0} → (A → ℕ → Result V DekuError → Standing A → Type 0) → A → ℕ → Result V DekuError → Standing A → Type 0
Reserving moves a c r u = ((r ≡ Err (Io OutOfMemory)) × (u ≡ Going a c)) ⊎ moves a c r u

-- The results of m, with h applied to the values.
pub data Mapped {A V W : Type 0} (h : V → W) (m : Meaning A V) (b : Bool) (s : Standing A) (r : Result W DekuError) (u : Standing A) : Type 0 where
  Value : (v : V) → m b s (Ok v) u → r ≡ Ok (h v) → Mapped h m b s r u
  Refusal : (e : DekuError) → m b s (Err e) u → r ≡ Err e → Mapped h m b s r u
