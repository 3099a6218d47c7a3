use Rattle.deku_packets.proofs.Places.{at_place}
use Rattle.deku_packets.proofs.read.read_at.Goals as goal

pub returns : goal.returns
returns g c = at_place _ c.in_ok-record.record c.args.bytes.now c.args.at c.args.limit _ _ _ c.between.ensures c.in_ok-record.ensures c.saturating_add.ensures c.ranges.limit.fits c.ranges.at.fits
