use Rattle.std.proofs.Common.{rules}
use Rattle.deku_formats_program.proofs.words.format_named.Goals as goal

pub returns-in-can : goal.returns-in-can
returns-in-can c = search rules

pub returns-in-ccsds : goal.returns-in-ccsds
returns-in-ccsds c = search rules

pub returns-in-dns : goal.returns-in-dns
returns-in-dns c = search rules

pub returns-in-elf : goal.returns-in-elf
returns-in-elf c = search rules

pub returns-in-ipv4 : goal.returns-in-ipv4
returns-in-ipv4 c = search rules

pub returns-in-png : goal.returns-in-png
returns-in-png c = search rules

pub returns-in-riscv : goal.returns-in-riscv
returns-in-riscv c = search rules

pub returns-in-udp : goal.returns-in-udp
returns-in-udp c = search rules

pub returns-in_default : goal.returns-in_default
returns-in_default c = search rules
