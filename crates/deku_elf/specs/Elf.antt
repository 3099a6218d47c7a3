-- What an ELF file says about itself.
use Rattle.std.specs.Prelude.{◌≡◌, ℕ, refl}
use Rattle.deku_num.specs.declared.ctx.Endian.{Endian}
use Rattle.deku_num.specs.declared.ctx.Endian.TheVariants as endian
use Rattle.deku_elf.specs.declared.Elf.{Elf}
use Rattle.deku_elf.specs.declared.Elf.TheVariants.{Little, Big}
use Rattle.deku_elf.specs.declared.fields.Fields.{Fields}
use Rattle.deku_pieces.specs.declared.either.Either.{Either}
use Rattle.deku_pieces.specs.declared.either.Either.TheVariants.{This, Other}
use Rattle.deku_pieces.specs.declared.either.Kind.{Kind}
use Rattle.deku_symmetry.specs.declared.enums.Enum.{Enum}
use Rattle.deku_symmetry.specs.declared.fields.Msb.{Msb}
use Rattle.deku_symmetry.specs.declared.fields.Le.{Le}
use Rattle.deku_symmetry.specs.declared.fields.Be.{Be}

-- The endian that the file names.
abbrev pub endian_of : Elf → Endian
endian_of (Little f) = endian.Little
endian_of (Big f) = endian.Big

-- Its fields.
abbrev pub fields_of : Elf → Fields
fields_of (Little f) = f
fields_of (Big f) = f

-- Where its program headers begin.
abbrev pub segments_at : Elf → ℕ
segments_at elf = (fields_of elf).segments_at

-- The fields under one byte of the endian or the other.
abbrev pub UnderByte : Type 0
UnderByte = Either (Kind (Le Fields) 1) (Kind (Be Fields) 2)

-- The byte of the endian, and the fields under it.
abbrev pub InFile : Type 0
InFile = Enum (Msb ℕ 8) UnderByte

-- The byte and the fields of a header.
abbrev pub in_file : Elf → InFile
in_file (Little f) = record { kind = This (record { 0 = record { 0 = f } }); id = record {} }
in_file (Big f) = record { kind = Other (record { 0 = record { 0 = f } }); id = record {} }

-- The header of fields under a byte.
abbrev pub elf_under : UnderByte → Elf
elf_under (This p) = Little p.0.0
elf_under (Other p) = Big p.0.0

-- The header of this byte and these fields.
abbrev pub elf_of : InFile → Elf
elf_of p = elf_under p.kind

-- The fields under a byte are those of their header.
under_back : (k : UnderByte) → in_file (elf_under k) ≡ record { kind = k; id = record {} }
under_back (This p) = refl
under_back (Other p) = refl

-- The byte and the fields are those of their header.
pub file_back : (p : InFile) → in_file (elf_of p) ≡ p
file_back p = under_back p.kind
