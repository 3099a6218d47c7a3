use Rattle.std.proofs.Common.{rules, ◌≡◌, ◌∙◌, ◌++◌, length, take, drop, arith}
use Rattle.std.proofs.lemmas.Result.{err_from_is_err_and}
use Rattle.std.proofs.lemmas.List.{take_at}
use Rattle.deku_fields.proofs.ReadBack.{found, vec_back, left_behind}
use Rattle.deku_fields.proofs.Finding.{vec_finds}
use Rattle.deku_fields.proofs.Causes.{vec_caused}
use Rattle.deku_fields.proofs.read.read_list.Goals as goal

pub returns-clause-meaning : goal.returns-clause-meaning
returns-clause-meaning g c =
    let numbers = c.read_list_into.new.out in
    let same : length numbers ≡ length c.as_mut_slice.result.now = omega arith in
    let whole : take c.in-Ok.numbers.len (numbers ++ drop (length numbers) c.in-Ok.numbers.items) ≡ numbers =
    take_at numbers (drop (length numbers) c.in-Ok.numbers.items) c.in-Ok.numbers.len (same ∙ c.as_mut_slice.ensures.len) in
    rw whole (found c.args.fields.now c.in_ok-read_list_into.ensures.meaning)

pub returns-clause-values : goal.returns-clause-values
returns-clause-values g c = vec_back c.args.fields.now (returns-clause-meaning g c)

pub returns-in_err-read_list_into-clause-meaning : goal.returns-in_err-read_list_into-clause-meaning
returns-in_err-read_list_into-clause-meaning g c =
    let p = err_from_is_err_and c.from_residual.result c.from_residual.ensures.1 in
    rw (p.1, p.2) (found c.args.fields.now c.in_err-read_list_into.ensures.meaning)

pub returns-in_err-read_list_into-clause-values : goal.returns-in_err-read_list_into-clause-values
returns-in_err-read_list_into-clause-values g c = vec_back c.args.fields.now (returns-in_err-read_list_into-clause-meaning g c)

pub returns-clause-behind : goal.returns-clause-behind
returns-clause-behind g c = λ items bytes after k calm begins stands tells room.
    left_behind c.args.fields.now _ _ _ _ _ items bytes after k begins stands tells room c.in_ok-read_list_into.ensures.early
    (returns-clause-values g c calm)

pub returns-clause-found : goal.returns-clause-found
returns-clause-found g c = vec_finds c.args.fields.now _ _ (returns-clause-meaning g c)

pub returns-in_err-read_list_into-clause-found : goal.returns-in_err-read_list_into-clause-found
returns-in_err-read_list_into-clause-found g c = vec_finds c.args.fields.now _ _ (returns-in_err-read_list_into-clause-meaning g c)

pub returns-in_err-read_list_into-clause-cause : goal.returns-in_err-read_list_into-clause-cause
returns-in_err-read_list_into-clause-cause g c =
    let p = err_from_is_err_and c.from_residual.result c.from_residual.ensures.1 in
    rw (p.1, p.2) (vec_caused c.args.fields.now _ c.args.reader.now.state _ _ _ _ (found c.args.fields.now c.in_err-read_list_into.ensures.meaning))

pub returns-in_default-clause-meaning : goal.returns-in_default-clause-meaning
returns-in_default-clause-meaning g c = search rules

pub returns-in_default-clause-values : goal.returns-in_default-clause-values
returns-in_default-clause-values g c = search rules

pub returns-in_default-clause-cause : goal.returns-in_default-clause-cause
returns-in_default-clause-cause g c = search rules

pub returns-clause-fetched : goal.returns-clause-fetched
returns-clause-fetched g c = search rules

pub returns-clause-early : goal.returns-clause-early
returns-clause-early g c = search rules

pub returns-clause-none : goal.returns-clause-none
returns-clause-none g c = search rules

pub returns-in_err-read_list_into-clause-early : goal.returns-in_err-read_list_into-clause-early
returns-in_err-read_list_into-clause-early g c = search rules

pub returns-in_err-read_list_into-clause-none : goal.returns-in_err-read_list_into-clause-none
returns-in_err-read_list_into-clause-none g c = search rules
