use Rattle.std.proofs.Common.{sym, subst}
use Rattle.std.specs.Prelude.{IfOk, IfErr, string_bytes}
use Rattle.deku_formats_program.proofs.program.record_text.Goals as goal
use Rattle.deku_formats_program.specs.contracts.program.RecordsTold.TheImpl.{ghosts}

pub returns-in-Can-clause-told : goal.returns-in-Can-clause-told
returns-in-Can-clause-told c = subst (λ f. IfOk c.shown.result (λ text. ghosts.tells f c.args.bytes.now (string_bytes text))) (sym c.in-Can.is) c.shown.ensures.taken

pub returns-in-Ccsds-clause-told : goal.returns-in-Ccsds-clause-told
returns-in-Ccsds-clause-told c = subst (λ f. IfOk c.shown-in-Ccsds.result (λ text. ghosts.tells f c.args.bytes.now (string_bytes text))) (sym c.in-Ccsds.is) c.shown-in-Ccsds.ensures.taken

pub returns-in-Dns-clause-told : goal.returns-in-Dns-clause-told
returns-in-Dns-clause-told c = subst (λ f. IfOk c.shown-in-Dns.result (λ text. ghosts.tells f c.args.bytes.now (string_bytes text))) (sym c.in-Dns.is) c.shown-in-Dns.ensures.taken

pub returns-in-Elf-clause-told : goal.returns-in-Elf-clause-told
returns-in-Elf-clause-told c = subst (λ f. IfOk c.shown-in-Elf.result (λ text. ghosts.tells f c.args.bytes.now (string_bytes text))) (sym c.in-Elf.is) c.shown-in-Elf.ensures.taken

pub returns-in-Ipv4-clause-told : goal.returns-in-Ipv4-clause-told
returns-in-Ipv4-clause-told c = subst (λ f. IfOk c.ipv4_text.result (λ text. ghosts.tells f c.args.bytes.now (string_bytes text))) (sym c.in-Ipv4.is) c.ipv4_text.ensures.told

pub returns-in-Png-clause-told : goal.returns-in-Png-clause-told
returns-in-Png-clause-told c = subst (λ f. IfOk c.shown-in-Png.result (λ text. ghosts.tells f c.args.bytes.now (string_bytes text))) (sym c.in-Png.is) c.shown-in-Png.ensures.taken

pub returns-in-Riscv-clause-told : goal.returns-in-Riscv-clause-told
returns-in-Riscv-clause-told c = subst (λ f. IfOk c.shown-in-Riscv.result (λ text. ghosts.tells f c.args.bytes.now (string_bytes text))) (sym c.in-Riscv.is) c.shown-in-Riscv.ensures.taken

pub returns-in-Udp-clause-told : goal.returns-in-Udp-clause-told
returns-in-Udp-clause-told c = subst (λ f. IfOk c.shown-in-Udp.result (λ text. ghosts.tells f c.args.bytes.now (string_bytes text))) (sym c.in-Udp.is) c.shown-in-Udp.ensures.taken

pub returns-in-Can-clause-stops : goal.returns-in-Can-clause-stops
returns-in-Can-clause-stops c = subst (λ f. IfErr c.shown.result (ghosts.stops f c.args.bytes.now)) (sym c.in-Can.is) c.shown.ensures.stops

pub returns-in-Ccsds-clause-stops : goal.returns-in-Ccsds-clause-stops
returns-in-Ccsds-clause-stops c = subst (λ f. IfErr c.shown-in-Ccsds.result (ghosts.stops f c.args.bytes.now)) (sym c.in-Ccsds.is) c.shown-in-Ccsds.ensures.stops

pub returns-in-Dns-clause-stops : goal.returns-in-Dns-clause-stops
returns-in-Dns-clause-stops c = subst (λ f. IfErr c.shown-in-Dns.result (ghosts.stops f c.args.bytes.now)) (sym c.in-Dns.is) c.shown-in-Dns.ensures.stops

pub returns-in-Elf-clause-stops : goal.returns-in-Elf-clause-stops
returns-in-Elf-clause-stops c = subst (λ f. IfErr c.shown-in-Elf.result (ghosts.stops f c.args.bytes.now)) (sym c.in-Elf.is) c.shown-in-Elf.ensures.stops

pub returns-in-Ipv4-clause-stops : goal.returns-in-Ipv4-clause-stops
returns-in-Ipv4-clause-stops c = subst (λ f. IfErr c.ipv4_text.result (ghosts.stops f c.args.bytes.now)) (sym c.in-Ipv4.is) c.ipv4_text.ensures.stops

pub returns-in-Png-clause-stops : goal.returns-in-Png-clause-stops
returns-in-Png-clause-stops c = subst (λ f. IfErr c.shown-in-Png.result (ghosts.stops f c.args.bytes.now)) (sym c.in-Png.is) c.shown-in-Png.ensures.stops

pub returns-in-Riscv-clause-stops : goal.returns-in-Riscv-clause-stops
returns-in-Riscv-clause-stops c = subst (λ f. IfErr c.shown-in-Riscv.result (ghosts.stops f c.args.bytes.now)) (sym c.in-Riscv.is) c.shown-in-Riscv.ensures.stops

pub returns-in-Udp-clause-stops : goal.returns-in-Udp-clause-stops
returns-in-Udp-clause-stops c = subst (λ f. IfErr c.shown-in-Udp.result (ghosts.stops f c.args.bytes.now)) (sym c.in-Udp.is) c.shown-in-Udp.ensures.stops
