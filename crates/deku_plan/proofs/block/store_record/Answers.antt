use Rattle.std.proofs.Common.{◌+◌, ◌*◌, ◌<◌, length, take, get_or, refl, ◌∙◌, arith}
use Rattle.deku_bits.specs.Bits.{bits_in}
use Rattle.deku_plan.proofs.Blocks.{sizes_next, sizes_front, word_stored}
use Rattle.deku_plan.proofs.block.store_record.Goals as goal

pub put_first-requires-clause-room : goal.put_first-requires-clause-room
put_first-requires-clause-room c =
    let bs = c.args.sizes.now in
    let i = c.loop-group.group in
    omega (arith, c.loop-group.invariant.0, c.loop-group.invariant.1, c.requires.room, sizes_next bs i 0 (omega arith), sizes_front bs (i + 1))

pub loop-group-preserved : goal.loop-group-preserved
loop-group-preserved c =
    let bs = c.args.sizes.now in
    let i = c.loop-group.group in
    let inside : i < length bs = omega arith in (
      omega (arith, c.loop-group.invariant.0, sizes_next bs i 0 inside),
      c.put_first.ensures.long ∙ c.loop-group.invariant.1,
      word_stored c.loop-group.out c.put_first.new.out c.loop-group.place (get_or bs i 0) i bs (λ k. get_or c.args.words.now (k * c.args.count + c.args.row) 0) (bits_in (take c.args.from c.args.out.now)) inside refl
          c.put_first.ensures.front c.loop-group.invariant.2,
    )
