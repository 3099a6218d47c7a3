use Rattle.std.proofs.Common.{◌≡◌, length}
use Rattle.deku_bits.specs.Standings.{reader_state}
use Rattle.deku.specs.Texts.{ReadsByte}
use Rattle.deku_reading.specs.Early.{NoReadAhead}
use Rattle.deku_reading.proofs.Runs.{SoFar}
use Rattle.deku.proofs.impls.cstring.read_count.Given as goal

abbrev pub invariant-loop : goal.invariant-loop
invariant-loop g l = record {
  far : (length l.bytes.items ≡ l.counter) × SoFar ReadsByte l.bytes.items
      (reader_state (g.R.Source.known l.initial.reader.source).remaining l.initial.reader.state) (g.R.Source.known l.initial.reader.source).health
      (reader_state (g.R.Source.known l.reader.source).remaining l.reader.state) (g.R.Source.known l.reader.source).health;
  early : NoReadAhead g.R.Source.known l.initial.reader l.reader;
}
