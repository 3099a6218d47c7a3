use Rattle.std.proofs.Common.{◌≡◌, arith, rules, length, take}
use Rattle.std.proofs.lemmas.Str.Pattern.{find_char}
use Rattle.std.specs.Prelude.{unwrap_or}
use Rattle.deku_fields.proofs.FirstComma.{no_kind}
use Rattle.deku_fields.proofs.words.split_kind.Goals as goal

pub returns-in-None : goal.returns-in-None
returns-in-None c =
    let word = c.args.word.now in
    let end : c.unwrap_or-end.result ≡ unwrap_or c.find.result (length word) = search rules in
    let front : c.range.result.now ≡ take c.unwrap_or-end.result word = search rules in
    no_kind word c.range.result.now c.find.result c.unwrap_or-end.result (find_char 44 word c.find.result c.find.ensures.cases (omega arith)) end front c.in-None.ensures
