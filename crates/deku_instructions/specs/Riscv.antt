-- The numbers that are stored in several places of an instruction word.
use Rattle.std.specs.Prelude.{◌+◌, ◌*◌, ℕ, ℤ}
use Rattle.deku_pieces.specs.Scattered.{joined_of}
use Rattle.deku_instructions.specs.declared.riscv.store.Store.{Store}
use Rattle.deku_instructions.specs.declared.riscv.branch.Branch.{Branch}
use Rattle.deku_instructions.specs.declared.riscv.jump.Jump.{Jump}

-- The offset of a store in bytes, from the address in its register.
abbrev pub offset_of : Store → ℤ
offset_of s = joined_of 5 s.high s.low

-- The bits of a branch's offset below its sign.
abbrev pub bits_below : Branch → ℕ
bits_below b = b.top * 1024 + b.middle * 16 + b.low

-- The offset of a branch in units of two bytes.
abbrev pub halves_of : Branch → ℤ
halves_of b = joined_of 11 b.sign (bits_below b)

-- The bits of a jump's offset below its sign.
abbrev pub jump_bits_below : Jump → ℕ
jump_bits_below j = j.high * 2048 + j.middle * 1024 + j.low

-- The offset of a jump in units of two bytes.
abbrev pub jump_of : Jump → ℤ
jump_of j = joined_of 19 j.sign (jump_bits_below j)
