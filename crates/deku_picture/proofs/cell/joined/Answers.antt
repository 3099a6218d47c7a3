use Rattle.std.proofs.Common.{◌≡◌, List, arith, true}
use Rattle.deku_picture.specs.declared.cell.Cell.{Cell}
use Rattle.deku_picture.proofs.Joining.{goes_on, begins, next_place_taken}
use Rattle.deku_picture.proofs.cell.joined.Goals as goal
use Rattle.deku_picture.proofs.cell.joined.Goals.{then-is_continued_by, else-is_continued_by+in_ok-push}

pub loop-place-preserved : goal.loop-place-preserved
loop-place-preserved c =
    let rest = c.args.rest.now in
    let i = c.loop-place.place-index in
    let before : List Cell = c.loop-place.cells.items in
    elim c.if-is_continued_by.branch [
      | then-is_continued_by w ↦
          let on = c.is_continued_by.ensures.0 w.if-is_continued_by.true in
          rw (w.cells-is, w.run-is) (
            next_place_taken c.args.first rest i _ c.loop-place-test.true (goes_on _ before c.loop-place.run _ c.loop-place.invariant.0 on),
            omega arith,
          )
      | else-is_continued_by+in_ok-push w ↦
          rw (w.cells-is, w.run-is, w.in_ok-push.ensures.items) (
            next_place_taken c.args.first rest i _ c.loop-place-test.true
                (begins _ before c.loop-place.run _ c.loop-place.invariant.0 (λ on. let yes : c.is_continued_by.result ≡ true = c.is_continued_by.ensures.1 on in let no = w.if-is_continued_by.false in absurd (cc))),
            omega arith,
          )
    ]
