-- What is printed of a record: whether it is written as it was read, and what follows it.
use Rattle.std.specs.Prelude.{◌≡◌, ◌⊎◌, ◌+◌, ◌-◌, ℕ, List, ◌++◌, length, take, min, Ok, decimal, codes}
use Rattle.std.specs.Global.{Vec}
use Rattle.std.specs.Int.{div_ceil}
use Rattle.deku_bits.specs.Pieces.{Piece}
use Rattle.deku_pieces.specs.Packs.{WasTaken, PacksLaid}
use Rattle.deku_program.specs.Texts.{line}
use Rattle.deku_formats_program.specs.declared.words.Format.{Format}
use Rattle.deku_formats_program.specs.declared.words.Format.TheVariants.{Can, Ccsds, Dns, Elf, Ipv4, Png, Riscv, Udp}

-- The first n bytes of both are the same, and the first n + 1 are not.
abbrev pub IsFirstDifference : List ℕ → List ℕ → ℕ → Type 0
IsFirstDifference read written n = (take n read ≡ take n written) × (take (n + 1) read ≡ take (n + 1) written → ⊥)

-- The line says that both are the same, or where they differ first.
abbrev pub IsVerdict : List ℕ → List ℕ → List ℕ → Type 0
IsVerdict read written text = ((read ≡ written) × (text ≡ line (codes "same")))
    ⊎ ((n : ℕ) × IsFirstDifference read written n × (text ≡ line (codes "differs at byte " ++ decimal n)))

-- The text is extended by whether the bytes that were read are those that were written, and how
-- many are left.
pub record GainsVerdict (read written : List ℕ) (left : ℕ) (before after : List ℕ) : Type 0 where
  pub verdict : List ℕ
  pub judged : IsVerdict read written verdict
  pub shown : after ≡ before ++ (verdict ++ line (codes "left " ++ decimal left))

-- After the lines of the fields the text says whether the first k bytes are those that were
-- written, and how many more there are.
abbrev pub TellsVerdict : List ℕ → ℕ → List ℕ → List ℕ → Type 0
TellsVerdict bytes k written text = (fields : List ℕ) × GainsVerdict (take k bytes) written (length bytes - k) fields text

-- The text describes a value that was taken from the bytes, and the bytes that it is written as.
pub record TellsOf {V : Type 0} (pieces : V → List Piece → Type 0) (bytes text : List ℕ) : Type 0 where
  pub value : V
  pub bits : ℕ
  pub taken : WasTaken pieces bytes bits value
  pub written : Vec ℕ
  pub laid : PacksLaid (pieces value) (Ok written)
  pub tells : TellsVerdict bytes (min (div_ceil bits 8) (length bytes)) written.items text

-- Bytes, and a text that describes the record at their start.
abbrev pub Telling : Type 1
Telling = List ℕ → List ℕ → Type 0

-- Of one thing for each format, the one for this format.
abbrev pub of_format : {A : Type 1} → (can ccsds dns elf ipv4 png riscv udp : A) → Format → A
of_format can ccsds dns elf ipv4 png riscv udp Can = can
of_format can ccsds dns elf ipv4 png riscv udp Ccsds = ccsds
of_format can ccsds dns elf ipv4 png riscv udp Dns = dns
of_format can ccsds dns elf ipv4 png riscv udp Elf = elf
of_format can ccsds dns elf ipv4 png riscv udp Ipv4 = ipv4
of_format can ccsds dns elf ipv4 png riscv udp Png = png
of_format can ccsds dns elf ipv4 png riscv udp Riscv = riscv
of_format can ccsds dns elf ipv4 png riscv udp Udp = udp
