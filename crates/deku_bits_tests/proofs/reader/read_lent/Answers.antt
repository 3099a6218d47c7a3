use Rattle.std.proofs.Common.{rules}
use Rattle.deku_bits.proofs.Handing.{name_stays, behind}
use Rattle.deku_bits_tests.proofs.reader.read_lent.Goals as goal

pub returns : goal.returns
returns g c =
    let made = c.new-reader.ensures in
    let left = c.read_bits_into.new.self in
    let before = (g.R.Source.known c.args.source.now).health in
    let after = (g.R.Source.known left.source.now).health in
    let h = rw (made.source, made.state) at c.read_bits_into.ensures.reads in
    let same = name_stays before after _ _ h in
    let tie = c.source-1.given.1 (search (rules, same)) in
    rw tie (left.state, behind before after _ _ h)
