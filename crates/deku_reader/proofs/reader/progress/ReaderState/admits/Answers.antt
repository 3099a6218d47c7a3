use Rattle.deku_reader.proofs.Moving.{admits_any}
use Rattle.deku_reader.proofs.reader.progress.ReaderState.admits.Goals as goal

pub returns : goal.returns
returns c =
    let p = c.self.inside in
    rw (← c.self.view_is) (admits_any (tt {0}) p.window p.tally.fault p.tally.count c.args.amt _ c.admits.ensures)
