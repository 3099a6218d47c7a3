use Rattle.std.proofs.Common.{◌<◌, rules, tests, length}
use Rattle.std.proofs.lemmas.Bool.{MatchBool-at_true}
use Rattle.std.proofs.lemmas.Iterator.{cases_from_all, YieldsList-from_slice}
use Rattle.std.proofs.lemmas.Iterator.Search.{true_from_All}
use Rattle.std.proofs.lemmas.List.Elements.{All-from_all_within}
use Rattle.deku_fields.proofs.Digits.{IsDigit, each_digit, all_digits}
use Rattle.deku_fields.proofs.words.is_digits.Goals as goal

pub returns-then-not-is_empty : goal.returns-then-not-is_empty
returns-then-not-is_empty c =
    let text = c.args.text.now in
    let some : 0 < length text = search (rules, tests) in
    let r = cases_from_all _ _ _ IsDigit (λ x. IsDigit x → ⊥) c.all.ensures.ran (YieldsList-from_slice text cc) (λ x q k. search (rules, tests)) (λ x q k. search (rules, tests)) in (
      λ t. (some, all_digits text (All-from_all_within IsDigit text (MatchBool-at_true _ _ t r))),
      λ n. true_from_All IsDigit (λ x. IsDigit x → ⊥) _ _ (λ x p q. q p) r (each_digit text n.1),
    )
