use Rattle.std.proofs.Common.{◌≡◌, ◌++◌, ◌∷◌, [], List, Ok, Err, inl, inr, arith, rules, refl, ◌+◌, ap, sym, ◌∙◌, subst, take}
use Rattle.std.proofs.lemmas.List.{take_all}
use Rattle.std.specs.List.{AllZip}
use Rattle.std.specs.Prelude.{string_bytes}
use Rattle.deku_bits.specs.WriterCalls.{Finalizes}
use Rattle.deku.specs.Composing.{Both}
use Rattle.deku_fields.specs.ListCalls.{WritesItems, WritesWhole}
use Rattle.hex.specs.Hex.{encode_lower}
use Rattle.deku_fields.specs.Naming.{NamesItem}
use Rattle.deku_fields.specs.Promise.{LaidOut}
use Rattle.deku_bits.specs.declared.error.DekuError.{DekuError}
use Rattle.deku_fields.specs.declared.program.Failure.TheVariants.{Fault}
use Rattle.deku_fields.specs.Runs.{ItemsRefused, WritingStops}
use Rattle.deku_program.specs.Texts.{words_of, line}
use Rattle.deku_fields.specs.declared.list.Item.{Item}
use Rattle.deku_fields.proofs.NamedItems.{none_is}
use Rattle.deku_fields.proofs.Runs.{one_more, no_list}
use Rattle.deku_fields.proofs.program.written.Goals as goal

pub returns-in_default-clause-stops : goal.returns-in_default-clause-stops
returns-in_default-clause-stops c =
    let nothing : (items : List Item) → AllZip NamesItem (words_of c.args.specs.now) items → ⊥ = λ items named.
    no_list NamesItem c.args.specs.now c.loop-word.word-index _ c.as_str.result.now (omega arith) (c.as_str.ensures.value ∙ ap string_bytes c.word-item.is) (λ i n. none_is ((c.in_default.ensures i).1 n)) items named in
    inl (refl, nothing)

pub loop-word-preserved : goal.loop-word-preserved
loop-word-preserved c =
    let before : List Item = c.loop-word.items.items in
    let pushed : c.push.new.self.items ≡ before ++ c.in-Some.item ∷ [] = search rules in
    let texts = c.args.specs.now in
    let i = c.loop-word.word-index in
    let more = one_more NamesItem texts i _ c.as_str.result.now before c.in-Some.item (omega arith) (c.as_str.ensures.value ∙ ap string_bytes c.word-item.is) c.loop-word.invariant ((c.in-Some.ensures c.in-Some.item).0 refl) in
    subst (λ xs. AllZip NamesItem (words_of (take (i + 1) texts)) xs) (sym pushed) more

pub returns-clause-shown : goal.returns-clause-shown
returns-clause-shown c =
    let texts = c.args.specs.now in
    let items : List Item = c.loop-word.items.items in
    let all : take c.loop-word.word-index texts ≡ texts = take_all c.loop-word.word-index texts (omega arith) in
    let named : AllZip NamesItem (words_of texts) items = subst (λ xs. AllZip NamesItem (words_of xs) items) all c.loop-word.invariant in
    let shown : string_bytes c.push-2.new.self ≡ line (encode_lower c.in_ok-bytes.bytes.items) = search rules in
    let bytes = c.in_ok-bytes.bytes in
    let same : c.as_slice.result.now ≡ items = c.as_slice.ensures.value in
    record {
      items = items;
      named = named;
      bytes = bytes;
      written = subst (λ xs. WritesWhole (Both (WritesItems xs) Finalizes) (Ok bytes)) same c.in_ok-bytes.ensures.meaning;
      laid_out = subst (λ xs. LaidOut xs (Ok bytes)) same c.in_ok-bytes.ensures.laid_out;
      shown = shown;
    }

pub returns-in_err-bytes-clause-stops : goal.returns-in_err-bytes-clause-stops
returns-in_err-bytes-clause-stops c =
    let texts = c.args.specs.now in
    let items : List Item = c.loop-word.items.items in
    let all : take c.loop-word.word-index texts ≡ texts = take_all c.loop-word.word-index texts (omega arith) in
    let named : AllZip NamesItem (words_of texts) items = subst (λ xs. AllZip NamesItem (words_of xs) items) all c.loop-word.invariant in
    let fault : DekuError = c.in_err-bytes.field-0.0 in
    let same : c.as_slice.result.now ≡ items = c.as_slice.ensures.value in
    let refused : ItemsRefused (words_of texts) (Fault fault) = record {
      items = items;
      named = named;
      fault = fault;
      refused = subst (λ xs. WritesWhole (Both (WritesItems xs) Finalizes) (Err fault)) same c.in_err-bytes.ensures.meaning;
      is = refl;
    } in
    let stops : WritingStops (words_of texts) (Fault fault) = inr (inr refused) in
    search (rules, stops)
