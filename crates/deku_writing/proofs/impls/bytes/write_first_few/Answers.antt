use Rattle.std.proofs.Common.{◌≡◌, ◌<◌, ◌*◌, ◌-◌, ◌/◌, ◌^◌, length, refl, ap, arith, rules}
use Rattle.deku_meanings.proofs.Joining.{answered}
use Rattle.deku_num.proofs.Turned.{turned_fits}
use Rattle.deku_writing.proofs.ByteRuns.{bytes_written}
use Rattle.deku_writing.proofs.impls.bytes.write_first_few.Goals as goal

pub try_write_number-requires-clause-inside : goal.try_write_number-requires-clause-inside
try_write_number-requires-clause-inside g c =
    let small : c.from_be_bytes.result < 2 ^ 64 = search rules in
    turned_fits 64 c.from_be_bytes.result c.args.count small (omega (arith, c.requires.few))

pub returns-then-not-try_write_number-clause-writes : goal.returns-then-not-try_write_number-clause-writes
returns-then-not-try_write_number-clause-writes g c = λ l high whole.
    let same : c.try_write_number.new.self ≡ c.args.writer.now = search rules in
    rw same answered

pub returns-clause-writes : goal.returns-clause-writes
returns-clause-writes g c = λ l high whole.
    let eight = c.padded-eight.result in
    let wide : length eight ≡ 8 = search rules in
    bytes_written l high whole c.args.count _ eight c.args.bytes.now _ _ _ _ c.requires.some c.requires.few wide c.padded-eight.ensures.bytes c.padded-eight.ensures.front
    (ap (λ x. x / 2 ^ (64 - 8 * c.args.count)) c.from_be_bytes.ensures) (c.if-not-try_write_number.ensures.order refl) (c.if-not-try_write_number.ensures.writes refl)
