use Rattle.std.proofs.Common.{◌≡◌, ◌+◌, ◌-◌, ◌*◌, ◌/◌, ◌^◌, ◌<◌, [], length, arith, refl}
use Rattle.deku_bits.specs.declared.ctx.Order.TheVariants.{Msb0}
use Rattle.deku_bits.specs.Writers.{Nothing, append}
use Rattle.deku_bits.proofs.Emits.{counted, succeeds_with_room}
use Rattle.deku_bits_write_tests.proofs.writer.write_over.Goals as goal

pub returns-clause-room : goal.returns-clause-room
returns-clause-room c = λ enough.
    let n : length (append c.args.order c.args.list.now Nothing).bytes ≡ (0 + length c.args.list.now) / 8 = counted Msb0 c.args.order [] c.args.list.now (omega arith) in
    let fits : 0 + 8 * length (append c.args.order c.args.list.now Nothing).bytes < 2 ^ 64 = omega arith in
    succeeds_with_room (append c.args.order c.args.list.now) _ _ Nothing 0 c.args.all.now _ _
    (rw (c.new-cursor.ensures.inner, c.new-cursor.ensures.position) refl) refl refl fits (omega arith) c.write_lent.ensures.1
