use Rattle.std.proofs.Common.{◌≡◌, ap, pos, rules}
use Rattle.deku_writing.proofs.WordsJoined.{field_word}
use Rattle.deku_writing.proofs.words.unsigned_word.Goals as goal

pub returns : goal.returns
returns c =
    let w = c.in_ok-width.ensures in
    let n = c.in_ok-number_of_bits.ensures in
    field_word c.args.number_type c.args.layout c.args.order _ c.low_bits-lowest.result _ (record { some = w.some; few = w.few; below = n.below }) w.wide w.order w.ok n.back
    (λ fits. let same : c.low_bits-lowest.result ≡ c.args.value = search (rules, fits) in rw c.requires.unsigned (ap pos same))
