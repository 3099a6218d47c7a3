use Rattle.std.proofs.Common.{refl}
use Rattle.deku.proofs.Containers.{counted_state}
use Rattle.deku.proofs.Joining.{passed_on}
use Rattle.deku_located.proofs.Placing.{alone_on}
use Rattle.deku_located.proofs.following.read_chosen.Goals as goal

pub returns-in_err-kind-clause-placed : goal.returns-in_err-kind-clause-placed
returns-in_err-kind-clause-placed g c =
    let begins = counted_state (g.R.Source.known c.args.reader.now.source).remaining c.args.reader.now.state c.bits_read-place.result c.bits_read-place.ensures in
    passed_on _ c.from_residual.ensures.1 (alone_on begins refl c.in_err-kind.ensures.reads)

pub returns-clause-placed : goal.returns-clause-placed
returns-clause-placed g c =
    let begins = counted_state (g.R.Source.known c.args.reader.now.source).remaining c.args.reader.now.state c.bits_read-place.result c.bits_read-place.ensures in
    alone_on begins refl c.in_ok-kind.ensures.reads
