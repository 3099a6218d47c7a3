use Rattle.std.proofs.Common.{arith, None, Some, Option, Bor, List, ℕ, subst, sym, rules}
use Rattle.std.proofs.lemmas.Str.Pattern.{split_after}
use Rattle.deku_fields.specs.Naming.{NamesField}
use Rattle.deku_fields.proofs.NamedItems.{none_is}
use Rattle.deku_picture.specs.Names.{IsName}
use Rattle.deku_picture.proofs.Colons.{colon_free, unnamed}
use Rattle.deku_picture.proofs.words.parse_named.Goals as goal

pub returns-in_default-split_once : goal.returns-in_default-split_once
returns-in_default-split_once c =
    let word = c.args.word.now in
    unnamed word (λ f n. none_is ((c.in_default.ensures f).1 n))
    (λ name spec f h. split_after 58 word name spec None c.in_default-split_once.ensures.cases (omega arith) h.1 (colon_free name h.0))

pub returns-then-not-is_name : goal.returns-then-not-is_name
returns-then-not-is_name c =
    let word = c.args.word.now in
    let parts : Option (Bor (List ℕ) × Bor (List ℕ)) = Some (c.in-Some-split_once.name, c.in-Some-split_once.spec) in
    unnamed word (λ f n. none_is ((c.in_default.ensures f).1 n))
    (λ name spec f h.
    let cut = split_after 58 word name spec parts c.in-Some-split_once.ensures.cases (omega arith) h.1 (colon_free name h.0) in
    let same : IsName c.in-Some-split_once.name.now = subst IsName (sym cut.0) h.0 in
    search (rules, c.is_name.ensures.1 same))

pub returns-in-None : goal.returns-in-None
returns-in-None c =
    let word = c.args.word.now in
    let parts : Option (Bor (List ℕ) × Bor (List ℕ)) = Some (c.in-Some-split_once.name, c.in-Some-split_once.spec) in
    unnamed word (λ f n. none_is ((c.in_default.ensures f).1 n))
    (λ name spec f h.
    let cut = split_after 58 word name spec parts c.in-Some-split_once.ensures.cases (omega arith) h.1 (colon_free name h.0) in
    none_is ((c.in-None.ensures f).1 (subst (λ s. NamesField s f) (sym cut.1) h.2)))
