use Rattle.std.proofs.Common.{◌≡◌, ◌∙◌, ◌++◌, length, take, drop, arith}
use Rattle.std.proofs.lemmas.List.{take_at}
use Rattle.std.specs.Io.KnownBytes.{Consumes}
use Rattle.deku_stream.specs.Bits.{facing}
use Rattle.deku_stream.specs.Streams.{flow}
use Rattle.deku_reader.proofs.Moving.{fetched, moves_keep}
use Rattle.deku_reader.proofs.reader.progress.bytes.bytes_onto.Goals as goal

pub returns-in-Ok-fetch_onto-clause-moved : goal.returns-in-Ok-fetch_onto-clause-moved
returns-in-Ok-fetch_onto-clause-moved g c =
    let known = g.R.Source.known in
    let o = c.args.order in
    let w = c.args.window.now in
    let t = (known c.args.source.now).remaining in
    let u = (known c.fetch_onto.new.self).remaining in
    let bytes = c.fetch_onto.new.bytes in
    let dst = c.exchange_all.new.dst in
    let same : length dst ≡ length c.as_mut_slice-in-Ok-fetch_onto.result.now = omega arith in
    let whole : take bytes.len (dst ++ drop (length dst) bytes.items) ≡ dst = take_at dst (drop (length dst) bytes.items) bytes.len (same ∙ c.as_mut_slice-in-Ok-fetch_onto.ensures.len) in
    let run : Consumes t u bytes.items = rw c.requires.empty at c.in-Ok-fetch_onto.ensures.bytes in
    let through = rw c.as_mut_slice-in-Ok-fetch_onto.ensures.value at c.exchange_all.ensures.bits in
    rw whole (moves_keep o w t (facing o w ++ flow o bytes.items) (flow o dst) c.exchange_all.new.window u (fetched o w t bytes.items u run) through)
