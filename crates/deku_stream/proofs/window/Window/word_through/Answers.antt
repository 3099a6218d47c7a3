use Rattle.std.proofs.Common.{◌<◌, ◌^◌, ◌++◌, ◌∙◌, ap, sym, All, arith, rules}
use Rattle.std.proofs.lemmas.List.Elements.{All-from_get_or}
use Rattle.deku_stream.specs.declared.ctx.Order.TheVariants.{Msb0}
use Rattle.deku_stream.specs.Streams.{flow}
use Rattle.deku_stream.proofs.Bytes.{IsByte}
use Rattle.deku_stream.proofs.EightBytes.{low_swapped}
use Rattle.deku_stream.proofs.Through.{eight_through_high, eight_through_low}
use Rattle.deku_stream.proofs.window.Window.word_through.Goals as goal

pub returns-in-Msb0-clause-bits : goal.returns-in-Msb0-clause-bits
returns-in-Msb0-clause-bits c =
    let all : All IsByte c.args.eight.now = All-from_get_or IsByte c.args.eight.now 0 (λ i inside. c.fits-eight i) in
    let fits : c.through_high-number.result < 2 ^ 64 = search rules in
    rw (c.in-Msb0.is, c.swap_bytes.ensures)
    (eight_through_high c.args.self.now c.through_high-number.new.self c.args.eight.now c.through_high-number.result (omega arith) all (rw c.from_be_bytes.ensures at c.through_high-number.ensures.bits)
    ∙ ap (λ b. flow Msb0 b ++ c.through_high-number.new.self) (sym (low_swapped c.through_high-number.result fits)))

pub returns-in-Lsb0-clause-bits : goal.returns-in-Lsb0-clause-bits
returns-in-Lsb0-clause-bits c =
    let all : All IsByte c.args.eight.now = All-from_get_or IsByte c.args.eight.now 0 (λ i inside. c.fits-eight i) in
    rw c.in-Lsb0.is
    (eight_through_low c.args.self.now c.through_low.new.self c.args.eight.now c.through_low.result (omega arith) all (search rules) (rw c.from_le_bytes.ensures at c.through_low.ensures.bits))
