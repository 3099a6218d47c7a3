use Rattle.std.proofs.Common.{refl, ap, ◌∙◌}
use Rattle.std.proofs.lemmas.Result.{err_from_is_err_and}
use Rattle.deku_bits.proofs.Handing.{unbroken}
use Rattle.deku_fields.proofs.Sound.{sound_memory}
use Rattle.deku.proofs.Containers.{starts_fresh, whole_source, new_source, counted_state}
use Rattle.deku_fields.proofs.ReadBack.{back_ok, back_err, from_first}
use Rattle.deku_bits.specs.Standings.{count_of}
use Rattle.deku_bits.specs.Streams.{fresh}
use Rattle.deku_fields.proofs.Fetching.{bits_found}
use Rattle.deku_fields.proofs.Causes.{bytes_caused}
use Rattle.deku_fields.proofs.read.list_from_bytes.Goals as goal

pub returns-clause-meaning : goal.returns-clause-meaning
returns-clause-meaning c =
    let begin = starts_fresh _ c.args.bytes.now _ (ap whole_source c.new-reader.ensures.source ∙ new_source c.new.result _ c.new.ensures.inner c.new.ensures.position) c.new-reader.ensures.state in
    (_, from_first c.args.fields.now _ _ _ _ begin (unbroken refl refl c.in_ok-numbers.ensures.meaning), counted_state (whole_source c.read_list.new.reader.source) c.read_list.new.reader.state c.bits_read.result c.bits_read.ensures)

pub returns-clause-values : goal.returns-clause-values
returns-clause-values c = λ items after begins room.
    let begin = starts_fresh _ c.args.bytes.now _ (ap whole_source c.new-reader.ensures.source ∙ new_source c.new.result _ c.new.ensures.inner c.new.ensures.position) c.new-reader.ensures.state in
    back_ok c.args.fields.now _ _ _ _ _ begin (c.in_ok-numbers.ensures.values sound_memory) (counted_state (whole_source c.read_list.new.reader.source) c.read_list.new.reader.state c.bits_read.result c.bits_read.ensures) items after begins room

pub returns-in_err-numbers-clause-meaning : goal.returns-in_err-numbers-clause-meaning
returns-in_err-numbers-clause-meaning c =
    let p = err_from_is_err_and c.from_residual.result c.from_residual.ensures.1 in
    rw (p.1, p.2) (let begin = starts_fresh _ c.args.bytes.now _ (ap whole_source c.new-reader.ensures.source ∙ new_source c.new.result _ c.new.ensures.inner c.new.ensures.position) c.new-reader.ensures.state in
    (_, from_first c.args.fields.now _ _ _ _ begin (unbroken refl refl c.in_err-numbers.ensures.meaning)))

pub returns-in_err-numbers-clause-values : goal.returns-in_err-numbers-clause-values
returns-in_err-numbers-clause-values c =
    let p = err_from_is_err_and c.from_residual.result c.from_residual.ensures.1 in
    rw (p.1, p.2) (λ items after begins room.
    let begin = starts_fresh _ c.args.bytes.now _ (ap whole_source c.new-reader.ensures.source ∙ new_source c.new.result _ c.new.ensures.inner c.new.ensures.position) c.new-reader.ensures.state in
    back_err c.args.fields.now _ _ _ _ begin (c.in_err-numbers.ensures.values sound_memory) items after begins room)

pub returns-clause-fetched : goal.returns-clause-fetched
returns-clause-fetched c =
    let tells = ap whole_source c.new-reader.ensures.source ∙ new_source c.new.result _ c.new.ensures.inner c.new.ensures.position in
    let begin = starts_fresh _ c.args.bytes.now _ tells c.new-reader.ensures.state in
    bits_found c.args.fields.now _ c.args.bytes.now _ _ (whole_source c.read_list.new.reader.source) _ _ _ (unbroken refl refl c.in_ok-numbers.ensures.meaning) (ap count_of begin)
    (counted_state (whole_source c.read_list.new.reader.source) c.read_list.new.reader.state c.bits_read.result c.bits_read.ensures) tells c.new-reader.ensures.state c.in_ok-numbers.ensures.fetched

pub returns-clause-found : goal.returns-clause-found
returns-clause-found c =
    let begin = starts_fresh _ c.args.bytes.now _ (ap whole_source c.new-reader.ensures.source ∙ new_source c.new.result _ c.new.ensures.inner c.new.ensures.position) c.new-reader.ensures.state in
    let found = c.in_ok-numbers.ensures.found (fresh c.args.bytes.now) 0 begin in
    (found.allowed, (found.rest, found.read))

pub returns-in_err-numbers-clause-cause : goal.returns-in_err-numbers-clause-cause
returns-in_err-numbers-clause-cause c =
    let p = err_from_is_err_and c.from_residual.result c.from_residual.ensures.1 in
    rw (p.1, p.2) (let begin = starts_fresh _ c.args.bytes.now _ (ap whole_source c.new-reader.ensures.source ∙ new_source c.new.result _ c.new.ensures.inner c.new.ensures.position) c.new-reader.ensures.state in
    bytes_caused c.args.fields.now c.args.bytes.now _ (_, from_first c.args.fields.now _ _ _ _ begin (unbroken refl refl c.in_err-numbers.ensures.meaning)))
