use Rattle.deku_bits.specs.Causes.{NoKind, WantsMemory}
use Rattle.deku_reading.specs.Lists.{ReadsTimes}
use Rattle.deku_bits.proofs.Causes.{wider}
use Rattle.deku.proofs.Causes.{joined, times, seen, under, held}
use Rattle.deku.proofs.laws.items_cause_law.Goals as goal

pub returns-clause-joined : goal.returns-clause-joined
returns-clause-joined g c h x p q = joined WantsMemory h _ _ p q

pub returns-clause-array : goal.returns-clause-array
returns-clause-array g c x p = seen WantsMemory (λ v. v) (ReadsTimes g.row.N (g.A.DekuReader.meaning x)) (times WantsMemory g.row.N (g.A.DekuReader.meaning x) p)

pub returns-clause-vector : goal.returns-clause-vector
returns-clause-vector g c l x p = held WantsMemory _ _ (under _ _ l _ p)

pub returns-clause-wider : goal.returns-clause-wider
returns-clause-wider g c x p = wider WantsMemory (g.A.DekuReader.meaning x) p

pub returns-clause-joined_alone : goal.returns-clause-joined_alone
returns-clause-joined_alone g c h x p q = joined NoKind h _ _ p q

pub returns-clause-array_alone : goal.returns-clause-array_alone
returns-clause-array_alone g c x p = seen NoKind (λ v. v) (ReadsTimes g.row.N (g.A.DekuReader.meaning x)) (times NoKind g.row.N (g.A.DekuReader.meaning x) p)
