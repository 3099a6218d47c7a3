use Rattle.std.proofs.Common.{◌≡◌, ◌∙◌, ◌++◌, ◌*◌, length, map, take, drop, arith}
use Rattle.std.proofs.lemmas.List.{take_at}
use Rattle.deku_bits.specs.Bits.{groups}
use Rattle.deku_bits.specs.Pieces.{total}
use Rattle.deku_fields.specs.Items.{field_shape}
use Rattle.deku_fields.proofs.Showing.{picture}
use Rattle.deku_fields.proofs.picture.places.Goals as goal

pub returns-clause-picture : goal.returns-clause-picture
returns-clause-picture c =
    let cells = c.mark_fields.new.cells in
    let same : length cells ≡ length c.as_mut_slice.result.now = omega arith in
    let whole : take c.in-Ok.cells.len (cells ++ drop (length cells) c.in-Ok.cells.items) ≡ cells =
    take_at cells (drop (length cells) c.in-Ok.cells.items) c.in-Ok.cells.len (same ∙ c.as_mut_slice.ensures.len) in
    let size : length cells ≡ 8 * groups (total (map field_shape c.args.fields.now)) = omega (arith, c.as_mut_slice.ensures.len, c.in-Ok.ensures.len, c.in_ok-count.ensures.count) in
    rw whole (picture c.args.fields.now cells c.in_ok-count.ensures.drawable.aligned size c.mark_fields.ensures)
