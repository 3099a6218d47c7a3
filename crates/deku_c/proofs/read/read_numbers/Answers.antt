use Rattle.std.proofs.Common.{Ok, [], refl, ap, ◌∙◌}
use Rattle.std.proofs.lemmas.Result.{err_from_is_err_and}
use Rattle.deku_bits.proofs.Handing.{unbroken}
use Rattle.deku.proofs.Containers.{starts_fresh, whole_source, new_source, counted_state}
use Rattle.deku_c.proofs.Reading.{read_ok, read_err, read_back}
use Rattle.deku_c.proofs.read.read_numbers.Goals as goal

pub returns-clause-meaning : goal.returns-clause-meaning
returns-clause-meaning c =
    let begin = starts_fresh _ c.args.bytes.now _ (ap whole_source c.new-reader.ensures.source ∙ new_source c.new.result _ c.new.ensures.inner c.new.ensures.position) c.new-reader.ensures.state in
    read_ok c.args.codes.now c.args.bytes.now _ _ _ _ begin (unbroken refl refl c.in_ok-read_each.ensures) (counted_state (whole_source c.read_each.new.reader.source) c.read_each.new.reader.state c.bits_read.result c.bits_read.ensures)

pub returns-in_err-read_each-clause-meaning : goal.returns-in_err-read_each-clause-meaning
returns-in_err-read_each-clause-meaning c =
    let begin = starts_fresh _ c.args.bytes.now _ (ap whole_source c.new-reader.ensures.source ∙ new_source c.new.result _ c.new.ensures.inner c.new.ensures.position) c.new-reader.ensures.state in
    let p = err_from_is_err_and c.from_residual.result c.from_residual.ensures.1 in
    rw (p.1, p.2) (read_err c.args.codes.now c.args.bytes.now [] _ _ _ begin (unbroken refl refl c.in_err-read_each.ensures))

pub returns-clause-back : goal.returns-clause-back
returns-clause-back c = read_back c.read_back_law.ensures c.args.codes.now c.args.bytes.now (Ok c.bits_read.result) _ (returns-clause-meaning c)

pub returns-in_err-read_each-clause-back : goal.returns-in_err-read_each-clause-back
returns-in_err-read_each-clause-back c = read_back c.read_back_law.ensures c.args.codes.now c.args.bytes.now c.from_residual.result _ (returns-in_err-read_each-clause-meaning c)

pub returns-in-Some-clause-back : goal.returns-in-Some-clause-back
returns-in-Some-clause-back c = read_back c.read_back_law.ensures c.args.codes.now c.args.bytes.now (Ok c.in-Some.bits) _ c.in-Some.ensures.reads
