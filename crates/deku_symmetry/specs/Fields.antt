-- Values as the parts that lay them out.
use Rattle.std.specs.Prelude.{ℕ}
use Rattle.deku_symmetry.specs.declared.fields.Be.{Be}
use Rattle.deku_symmetry.specs.declared.fields.Le.{Le}
use Rattle.deku_symmetry.specs.declared.fields.Msb.{Msb}
use Rattle.deku_symmetry.specs.declared.fields.Lsb.{Lsb}
use Rattle.deku_symmetry.specs.declared.fields.MsbLe.{MsbLe}
use Rattle.deku_symmetry.specs.declared.fields.LsbBe.{LsbBe}

-- Whole bytes, the high one first.
abbrev pub be : {A : Type 0} → A → Be A
be x = record { 0 = x }

-- Whole bytes, the low one first.
abbrev pub le : {A : Type 0} → A → Le A
le x = record { 0 = x }

-- Bits, the high ones first.
abbrev pub msb : {A : Type 0} {n : ℕ} → A → Msb A n
msb x = record { 0 = x }

-- Bits, the low ones first.
abbrev pub lsb : {A : Type 0} {n : ℕ} → A → Lsb A n
lsb x = record { 0 = x }

-- Bits with the low byte first, the high bits of each first.
abbrev pub msb_le : {A : Type 0} {n : ℕ} → A → MsbLe A n
msb_le x = record { 0 = x }

-- Bits with the high byte first, the low bits of each first.
abbrev pub lsb_be : {A : Type 0} {n : ℕ} → A → LsbBe A n
lsb_be x = record { 0 = x }
