-- The word is that of the value's residue, which is worth the value where it fits.
use Rattle.std.proofs.Common.{◌≡◌, ℤ, true, sym, ◌∙◌, ap, ap₂, rules}
use mir.Syntax.{w128}
use mir.Val.{SFits, of_z, to_z}
use Rattle.std.proofs.lemmas.Int.{to_z-of_z}
use Rattle.deku_num.specs.Numbers.{with_sign}
use Rattle.deku_num.specs.NumberLaws.{residue}
use Rattle.deku_num.proofs.Fitted.{signed_word_for, signed_unfit}
use Rattle.deku_num.proofs.kernel.signed_word.Goals as goal

-- numbers of 128 bits with the same bits
same_number : (r v : ℤ) → SFits w128 r → SFits w128 v → of_z w128 r ≡ of_z w128 v → r ≡ v
same_number r v p q e = sym (to_z-of_z w128 r p) ∙ ap (λ x. to_z w128 x) e ∙ to_z-of_z w128 v q

pub returns-then-sign_extend-value-clause-none : goal.returns-then-sign_extend-value-clause-none
returns-then-sign_extend-value-clause-none c = λ _.
    let e = c.residue_of-wanted.ensures ∙ ap₂ (λ x y. residue x y) (to_z-of_z w128 c.args.value c.ranges.value) c.requires.wide in
    signed_unfit c.args.number_type c.args.layout c.args.value c.requires.allowed c.requires.signed
    (λ q. c.if-sign_extend-value.true (ap (λ x. of_z w128 x) (c.sign_extend.ensures ∙ ap₂ (λ a b. with_sign true a b) c.requires.wide e ∙ q)))

pub returns-clause-word : goal.returns-clause-word
returns-clause-word c =
    let e = c.residue_of-wanted.ensures ∙ ap₂ (λ x y. residue x y) (to_z-of_z w128 c.args.value c.ranges.value) c.requires.wide in
    let is = rw (e, c.requires.wide) at c.word_of_number.ensures in
    signed_word_for c.args.number_type c.args.layout c.args.value c.word_of_number.result c.requires.allowed c.requires.signed
    (sym (c.sign_extend.ensures ∙ ap₂ (λ a b. with_sign true a b) c.requires.wide e) ∙ same_number c.sign_extend.result c.args.value (search rules) c.ranges.value c.if-sign_extend-value.false)
    is

pub residue_of-wanted-requires : goal.residue_of-wanted-requires
residue_of-wanted-requires c = search rules

pub sign_extend-requires-clause-wide : goal.sign_extend-requires-clause-wide
sign_extend-requires-clause-wide c = search rules

pub sign_extend-requires-clause-below : goal.sign_extend-requires-clause-below
sign_extend-requires-clause-below c = search rules

pub returns-then-sign_extend-value-clause-word : goal.returns-then-sign_extend-value-clause-word
returns-then-sign_extend-value-clause-word c = search rules

pub word_of_number-requires : goal.word_of_number-requires
word_of_number-requires c = search rules

pub returns-clause-none : goal.returns-clause-none
returns-clause-none c = search rules
