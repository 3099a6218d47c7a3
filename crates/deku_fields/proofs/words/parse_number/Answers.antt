use Rattle.std.proofs.Common.{◌≡◌, arith, rules, tests, true}
use Rattle.std.proofs.lemmas.Int.{ints}
use Rattle.std.specs.Str.Parse.{IsNumeral}
use Rattle.deku_fields.specs.Items.{number_type}
use Rattle.deku_fields.proofs.Numerals.{negative, positive, plain, beyond}
use Rattle.deku_fields.proofs.words.parse_number.Goals as goal
use Rattle.deku_fields.proofs.words.parse_number.Goals.{then-is_signed+in_default-parse, else-is_signed}

pub returns-in-Ok : goal.returns-in-Ok
returns-in-Ok c =
    let digits : IsNumeral 10 c.in-Some.digits.now = c.is_digits.ensures.0 (search (rules, tests)) in
    negative c.args.kind c.args.text.now c.in-Some.digits.now _ c.in-Ok.value c.in-Some.ensures digits c.in-Ok.ensures.value.0 (omega (arith, ints))

pub returns-in-Ok-parse : goal.returns-in-Ok-parse
returns-in-Ok-parse c =
    let digits : IsNumeral 10 c.args.text.now = c.is_digits-2.ensures.0 (search (rules, tests)) in
    let signed : (number_type c.args.kind).signed ≡ true = search (rules, tests) in
    positive c.args.kind c.args.text.now _ c.in-Ok-parse.value digits signed c.in-Ok-parse.ensures.value.0 (omega (arith, ints))

pub returns-in-Ok-parse-2 : goal.returns-in-Ok-parse-2
returns-in-Ok-parse-2 c =
    let digits : IsNumeral 10 c.args.text.now = c.is_digits-2.ensures.0 (search (rules, tests)) in
    plain c.args.kind c.args.text.now c.in-Ok-parse-2.value digits
    (elim c.if-is_signed.branch [
      | then-is_signed+in_default-parse w ↦ λ e. beyond c.args.text.now digits w.in_default-parse.ensures.value.0
      | else-is_signed w ↦ λ e. absurd (search (rules, tests))
    ]) c.in-Ok-parse-2.ensures.value.0
