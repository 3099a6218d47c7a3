-- The words that the program knows.
use Rattle.std.specs.Prelude.{◌≡◌, ℕ, List, [], ◌∷◌, codes}
use Rattle.deku_formats_program.specs.declared.words.Format.{Format}
use Rattle.deku_formats_program.specs.declared.words.Format.TheVariants.{Can, Ccsds, Dns, Elf, Ipv4, Png, Riscv, Udp}
use Rattle.deku_formats_program.specs.declared.words.Asked.{Asked}
use Rattle.deku_formats_program.specs.declared.words.Asked.TheVariants.{Names, Help, Record}

-- The name of a format.
abbrev pub name_of : Format → List ℕ
name_of Can = codes "can"
name_of Ccsds = codes "ccsds"
name_of Dns = codes "dns"
name_of Elf = codes "elf"
name_of Ipv4 = codes "ipv4"
name_of Png = codes "png"
name_of Riscv = codes "riscv"
name_of Udp = codes "udp"

-- The words ask for this: no word, `--help`, or the name of a format.
abbrev pub AskFor : List (List ℕ) → Asked → Type 0
AskFor words Names = words ≡ []
AskFor words Help = words ≡ codes "--help" ∷ []
AskFor words (Record format) = words ≡ name_of format ∷ []

-- The words ask for nothing.
abbrev pub AreNoForm : List (List ℕ) → Type 0
AreNoForm words = (a : Asked) → AskFor words a → ⊥
