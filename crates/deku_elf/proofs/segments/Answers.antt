use Rattle.std.proofs.Common.{rules}
use Rattle.deku_elf.specs.Following.{Sought, NotSought}
use Rattle.deku_elf.proofs.segments.Goals as goal

pub returns-in_err-seek-clause-reads : goal.returns-in_err-seek-clause-reads
returns-in_err-seek-clause-reads g c room = NotSought c.in_err-seek.field-0.0 (search rules) (search rules)
    (rw c.fields-fields.ensures at c.in_err-seek.ensures.sought) (c.in_err-seek.ensures.nowhere (search rules))

pub returns-clause-reads : goal.returns-clause-reads
returns-clause-reads g c room = Sought c.seek.new.self c.in_ok-seek.field-0 (rw c.fields-fields.ensures at c.in_ok-seek.ensures.ok) (rw c.fields-fields.ensures at c.in_ok-seek.ensures.sought)
    c.in_ok-seek.ensures.remaining (rw (c.new_count-limit.ensures, c.endian.ensures, c.fields-fields.ensures) at c.from_reader_with_ctx.ensures.reads)
