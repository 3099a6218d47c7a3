use Rattle.std.proofs.Common.{◌≡◌, pos, refl, ◌∙◌, rules, arith}
use Rattle.std.proofs.lemmas.Int.{ints}
use Rattle.std.specs.Int.NonZero.{non_zero_isize_get}
use Rattle.deku_bits.proofs.Handing.{passed_on}
use Rattle.deku_meanings.proofs.Joining.{first_refused, then_on}
use Rattle.deku_reading.proofs.Holding.{denied, shown_behind}
use mir.Syntax.{w64}
use mir.Val.{SFits}
use Rattle.deku_reading.proofs.impls.nonzero.NonZeroIsizeDekuReader.from_reader_with_ctx.Goals as goal

pub returns-in_err-number-clause-reads : goal.returns-in_err-number-clause-reads
returns-in_err-number-clause-reads g c = passed_on _ c.from_residual.ensures.1 (first_refused c.in_err-number.ensures.reads)

pub returns-in-Some-clause-reads : goal.returns-in-Some-clause-reads
returns-in-Some-clause-reads g c =
    let fits : SFits w64 c.in_ok-number.number = search rules in
    then_on c.in_ok-number.ensures.reads (shown_behind (c.in-Some.ensures ∙ omega (arith, ints)))

pub returns-in-None-clause-reads : goal.returns-in-None-clause-reads
returns-in-None-clause-reads g c =
    let fits : SFits w64 c.in_ok-number.number = search rules in
    then_on c.in_ok-number.ensures.reads (denied (λ n. n ≡ pos 0) non_zero_isize_get _ refl (omega (arith, ints, c.in-None.ensures)))

pub returns-in-Some-clause-early : goal.returns-in-Some-clause-early
returns-in-Some-clause-early g c = λ _. c.in_ok-number.ensures.early
