use Rattle.std.proofs.Common.{◌≡◌, ℤ, sym, ap, ◌∙◌, rules}
use mir.Syntax.{w64, w128}
use mir.Val.{SFits, of_z, to_z}
use Rattle.std.proofs.lemmas.Int.{to_z-of_z}
use Rattle.deku_writing.proofs.WordsJoined.{field_word}
use Rattle.deku_writing.proofs.words.signed_word.Goals as goal

-- numbers of 128 bits with the same bits
same_number : (r v : ℤ) → SFits w128 r → SFits w128 v → of_z w128 r ≡ of_z w128 v → r ≡ v
same_number r v p q e = sym (to_z-of_z w128 r p) ∙ ap (λ x. to_z w128 x) e ∙ to_z-of_z w128 v q

pub returns : goal.returns
returns c =
    let w = c.in_ok-width.ensures in
    let n = c.in_ok-number_of_bits.ensures in
    let narrow : to_z w64 (of_z w64 c.args.value) ≡ c.args.value = to_z-of_z w64 c.args.value c.ranges.value in
    field_word c.args.number_type c.args.layout c.args.order _ c.low_bits-lowest.result _ (record { some = w.some; few = w.few; below = n.below }) w.wide w.order w.ok n.back
    (λ fits.
    let same : of_z w128 c.sign_extend.result ≡ of_z w128 (to_z w64 (of_z w64 c.args.value)) = search (rules, fits) in
    rw c.requires.signed (sym c.sign_extend.ensures ∙ same_number c.sign_extend.result c.args.value (search rules) (search rules) (same ∙ ap (of_z w128) narrow)))
