-- The parts of a word: its code chooses one of eleven kinds.
use Rattle.std.specs.Prelude.{◌≡◌, ℕ, refl}
use Rattle.deku_instructions.specs.declared.riscv.branch.Branch.{Branch}
use Rattle.deku_instructions.specs.declared.riscv.immediate.Immediate.{Immediate}
use Rattle.deku_instructions.specs.declared.riscv.jump.Jump.{Jump}
use Rattle.deku_instructions.specs.declared.riscv.register.Register.{Register}
use Rattle.deku_instructions.specs.declared.riscv.store.Store.{Store}
use Rattle.deku_instructions.specs.declared.riscv.upper.Upper.{Upper}
use Rattle.deku_instructions.specs.declared.riscv.instruction.Instruction.{Instruction}
use Rattle.deku_instructions.specs.declared.riscv.instruction.Instruction.TheVariants as word
use Rattle.deku_pieces.specs.declared.either.Either.{Either}
use Rattle.deku_pieces.specs.declared.either.Either.TheVariants.{This, Other}
use Rattle.deku_pieces.specs.declared.either.Kind.{Kind}
use Rattle.deku_symmetry.specs.declared.enums.Enum.{Enum}
use Rattle.deku_symmetry.specs.declared.fields.Lsb.{Lsb}

-- The kinds of the lowest four codes.
abbrev pub LowCodes : Type 0
LowCodes = Either (Either (Kind Immediate 0x03) (Kind Immediate 0x0F)) (Either (Kind Immediate 0x13) (Kind Upper 0x17))

-- The kinds of the codes between these.
abbrev pub MiddleCodes : Type 0
MiddleCodes = Either (Kind Store 0x23) (Either (Kind Register 0x33) (Kind Upper 0x37))

-- The kinds of the highest four codes.
abbrev pub HighCodes : Type 0
HighCodes = Either (Either (Kind Branch 0x63) (Kind Immediate 0x67)) (Either (Kind Jump 0x6F) (Kind Immediate 0x73))

-- The operands of a code.
abbrev pub Operands : Type 0
Operands = Either LowCodes (Either MiddleCodes HighCodes)

-- The code, and the operands of it.
abbrev pub InWord : Type 0
InWord = Enum (Lsb ℕ 7) Operands

-- The parts of operands.
abbrev pub in_word : Operands → InWord
in_word k = record { kind = k; id = record {} }

-- The parts of a word.
abbrev pub parts_of_word : Instruction → InWord
parts_of_word (word.Load x) = in_word (This (This (This (record { 0 = x }))))
parts_of_word (word.Fence x) = in_word (This (This (Other (record { 0 = x }))))
parts_of_word (word.OperateImmediate x) = in_word (This (Other (This (record { 0 = x }))))
parts_of_word (word.AddUpper x) = in_word (This (Other (Other (record { 0 = x }))))
parts_of_word (word.Store x) = in_word (Other (This (This (record { 0 = x }))))
parts_of_word (word.Operate x) = in_word (Other (This (Other (This (record { 0 = x })))))
parts_of_word (word.LoadUpper x) = in_word (Other (This (Other (Other (record { 0 = x })))))
parts_of_word (word.Branch x) = in_word (Other (Other (This (This (record { 0 = x })))))
parts_of_word (word.JumpRegister x) = in_word (Other (Other (This (Other (record { 0 = x })))))
parts_of_word (word.Jump x) = in_word (Other (Other (Other (This (record { 0 = x })))))
parts_of_word (word.System x) = in_word (Other (Other (Other (Other (record { 0 = x })))))

-- The word of a code of the lowest four.
abbrev pub low_word : LowCodes → Instruction
low_word (This (This k)) = word.Load k.0
low_word (This (Other k)) = word.Fence k.0
low_word (Other (This k)) = word.OperateImmediate k.0
low_word (Other (Other k)) = word.AddUpper k.0

-- The word of a code between these.
abbrev pub middle_word : MiddleCodes → Instruction
middle_word (This k) = word.Store k.0
middle_word (Other (This k)) = word.Operate k.0
middle_word (Other (Other k)) = word.LoadUpper k.0

-- The word of a code of the highest four.
abbrev pub high_word : HighCodes → Instruction
high_word (This (This k)) = word.Branch k.0
high_word (This (Other k)) = word.JumpRegister k.0
high_word (Other (This k)) = word.Jump k.0
high_word (Other (Other k)) = word.System k.0

-- The word of operands.
abbrev pub word_of_operands : Operands → Instruction
word_of_operands (This k) = low_word k
word_of_operands (Other (This k)) = middle_word k
word_of_operands (Other (Other k)) = high_word k

-- The word that parts make.
abbrev pub word_of_parts : InWord → Instruction
word_of_parts p = word_of_operands p.kind

-- The parts of a word of low codes are these.
low_back : (k : LowCodes) → parts_of_word (low_word k) ≡ in_word (This k)
low_back (This (This k)) = refl
low_back (This (Other k)) = refl
low_back (Other (This k)) = refl
low_back (Other (Other k)) = refl

-- So are those of the codes between.
middle_back : (k : MiddleCodes) → parts_of_word (middle_word k) ≡ in_word (Other (This k))
middle_back (This k) = refl
middle_back (Other (This k)) = refl
middle_back (Other (Other k)) = refl

-- And those of high codes.
high_back : (k : HighCodes) → parts_of_word (high_word k) ≡ in_word (Other (Other k))
high_back (This (This k)) = refl
high_back (This (Other k)) = refl
high_back (Other (This k)) = refl
high_back (Other (Other k)) = refl

-- The parts of the word that operands make are these operands.
operands_back : (k : Operands) → parts_of_word (word_of_operands k) ≡ in_word k
operands_back (This k) = low_back k
operands_back (Other (This k)) = middle_back k
operands_back (Other (Other k)) = high_back k

-- The parts of the word that parts make are these parts.
pub parts_back : (p : InWord) → parts_of_word (word_of_parts p) ≡ p
parts_back p = operands_back p.kind
