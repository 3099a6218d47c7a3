use Rattle.std.proofs.Common.{◌≡◌, length, rules}
use Rattle.deku.proofs.Joining.{passed_on, first_refused, then_on}
use Rattle.deku_symmetry.proofs.prefixed.write_prefixed.Goals as goal

pub returns-in_err-to_writer : goal.returns-in_err-to_writer
returns-in_err-to_writer g c =
    let count : c.len.result ≡ length c.args.items.now.items = search rules in
    passed_on _ c.from_residual.ensures.1 (first_refused (rw (c.of_number-count.ensures, count) at c.in_err-to_writer.ensures))

pub returns : goal.returns
returns g c =
    let count : c.len.result ≡ length c.args.items.now.items = search rules in
    then_on (rw (c.of_number-count.ensures, count) at c.in_ok-to_writer.ensures) c.to_writer-2.ensures
