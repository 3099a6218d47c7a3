-- What a call does that reads or writes a number.
use Rattle.std.specs.Prelude.{◌≡◌, ◌⊎◌, ℕ, ◌%◌, ◌<◌, ◌≤◌, Bool, false, List, length, Option, Result, Ok, Err, codes, ℤ, pos}
use Rattle.std.specs.Borrow.{Bor}
use Rattle.deku_bits.specs.declared.error.DekuError.{DekuError}
use Rattle.deku_bits.specs.declared.error.DekuError.TheVariants.{Parse, InvalidParam}
use Rattle.deku_bits.specs.Faults.{Tells}
use Rattle.deku_bits.specs.Bits.{shown}
use Rattle.deku_bits.specs.Streams.{Stream}
use Rattle.deku_bits.specs.Standings.{Standing, Output}
use Rattle.deku_bits.specs.Outcomes.{Meaning, Refuses, Mapped}
use Rattle.deku_bits.specs.ReaderCalls.{TakesBits}
use Rattle.deku_bits.specs.WriterCalls.{WritesBits}
use Rattle.deku_num.specs.declared.ctx.Size.{Size}
use Rattle.deku_num.specs.declared.ctx.Size.TheVariants.{Whole, Bytes}
use Rattle.deku_num.specs.declared.ctx.Layout.{Layout}
use Rattle.deku_num.specs.NumberLaws.{InType}
use Rattle.deku_num.specs.Numbers.{NumberType, width, IsEvenWhere, IsAllowed, value, IsFieldOf}

-- A check comes first. Either it fails, as `refuses` says, and no device fails; or m follows, which
-- itself has to state what the check allowed.
pub data Checked {A V : Type 0} (refuses : Standing A → Result V DekuError → Standing A → Type 0) (m : Meaning A V) (b : Bool) (s : Standing A) (r : Result V DekuError) (u : Standing A) : Type 0 where
  Refused : b ≡ false → refuses s r u → Checked refuses m b s r u
  Passed : m b s r u → Checked refuses m b s r u

-- Why a layout is rejected: with this text for a size beyond the type, or since it is signed, big,
-- `Lsb0`, wider than 8 and not a multiple of 8.
abbrev pub IsLayoutRefusal : (Bor (List ℕ) → DekuError) → List ℕ → NumberType → Layout → DekuError → Type 0
IsLayoutRefusal refusal text t l e = ((t.bits < width t l) × Tells refusal text e)
    ⊎ ((width t l ≤ t.bits) × (IsEvenWhere t.signed l.endian l.order (width t l) → ⊥) × Tells InvalidParam (codes "signed big Lsb0 field of this width") e)

-- The layout is rejected, and nothing changes.
abbrev pub RefusesLayout : {A V : Type 0} → (Bor (List ℕ) → DekuError) → List ℕ → NumberType → Layout → Standing A → Result V DekuError → Standing A → Type 0
RefusesLayout refusal text t l s r u = (e : DekuError) × IsLayoutRefusal refusal text t l e × (r ≡ Err e) × (u ≡ s)

-- A number is read: its layout is checked, this many bits are taken, and the number is their value.
abbrev pub ReadsNumber : NumberType → Layout → Meaning (Option Stream) ℤ
ReadsNumber t l = Checked (RefusesLayout Parse (codes "too much data") t l) (λ b s r u. IsAllowed t l × Mapped (value t l) (TakesBits l.order (width t l)) b s r u)

-- The text of the error for a size beyond the type, when a number is written.
abbrev pub beyond : Size → List ℕ
beyond (Bytes n) = codes "byte size is larger than input"
beyond _ = codes "bit size is larger than input"

-- The layout is not rejected, but no list of bits of the field has the value v. It fails.
abbrev pub RefusesValue : {A V : Type 0} → NumberType → Layout → ℤ → Standing A → Result V DekuError → Standing A → Type 0
RefusesValue t l v s r u = ((bits : List Bool) → IsFieldOf t l v bits → ⊥) × IsAllowed t l × Refuses InvalidParam (codes "bit size of input is larger than requested size") s r u

-- A number is written: its layout is checked, then whether it fits, and its list of bits is
-- written.
abbrev pub WritesNumber : NumberType → Layout → ℤ → Meaning Output (Unit {0})
WritesNumber t l v = Checked (RefusesLayout InvalidParam (beyond l.size) t l)
    (Checked (RefusesValue t l v) (λ b s r u. IsAllowed t l × ((bits : List Bool) × IsFieldOf t l v bits × WritesBits l.order (shown l.order bits) b s r u)))

-- The result of reading an unsigned number, with the number as an integer.
abbrev pub integers : Result ℕ DekuError → Result ℤ DekuError
integers (Ok n) = Ok (pos n)
integers (Err e) = Err e

-- An unsigned number is read.
abbrev pub ReadsUnsigned : NumberType → Layout → Meaning (Option Stream) ℕ
ReadsUnsigned t l b s r u = ReadsNumber t l b s (integers r) u

-- A value of a type of whole bytes, under a layout of the type's whole size.
pub record IsWhole (t : NumberType) (l : Layout) (v : ℤ) : Type 0 where
  pub some : 0 < t.bits
  pub bytes : t.bits % 8 ≡ 0
  pub whole : l.size ≡ Whole
  pub in_type : InType t.signed t.bits v

-- A value under a layout of its type's whole size is written as exactly the bits of its type. It
-- never fails for its layout or for its value.
abbrev pub SizeLaw : Type 0
SizeLaw = (t : NumberType) (l : Layout) (v : ℤ) → IsWhole t l v
    → (bits : List Bool) × (length bits ≡ t.bits)
    × ((b : Bool) (s : Standing Output) (r : Result (Unit {0}) DekuError) (u : Standing Output) → WritesNumber t l v b s r u → WritesBits l.order (shown l.order bits) b s r u)
