use Rattle.std.proofs.Common.{◌≡◌, ◌<◌, ◌++◌, List, [], length, rules, tests, sym, subst, append-nil}
use Rattle.std.proofs.lemmas.List.{nil_from_length}
use Rattle.std.specs.Global.{Vec}
use Rattle.deku_picture.specs.declared.cell.Cell.{Cell}
use Rattle.deku_picture.specs.Cells.{AreRows}
use Rattle.deku_picture.proofs.Joining.{row_more, rows_laid}
use Rattle.deku_picture.proofs.cell.rows.Goals as goal

pub loop-rest-preserved : goal.loop-rest-preserved
loop-rest-preserved c = λ more h.
    let places = c.args.places.now in
    let rest = c.loop-rest.rest.now in
    let some : 0 < length rest = search (rules, tests) in
    let before : List (Vec Cell) = c.loop-rest.rows.items in
    subst (λ rows. AreRows places (rows ++ more)) (sym c.in_ok-push.ensures.items)
    (row_more places rest c.split_at.result.0.now c.split_at.result.1.now c.min.result before c.in_ok-cells.field-0 some c.min.ensures c.split_at.ensures.front c.split_at.ensures.back c.in_ok-cells.ensures c.loop-rest.invariant more h)

pub returns-clause-rows : goal.returns-clause-rows
returns-clause-rows c =
    let empty : length c.loop-rest.rest.now ≡ 0 = search (rules, tests) in
    let rows : List (Vec Cell) = c.loop-rest.rows.items in
    subst (AreRows c.args.places.now) (append-nil rows) (c.loop-rest.invariant [] (nil_from_length c.loop-rest.rest.now empty))

pub returns-clause-laid : goal.returns-clause-laid
returns-clause-laid c = rows_laid c.args.places.now c.loop-rest.rows.items (returns-clause-rows c)
