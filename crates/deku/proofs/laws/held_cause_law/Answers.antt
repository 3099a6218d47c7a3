use Rattle.std.proofs.Common.{Some}
use Rattle.deku_bits.specs.Causes.{NoKind, WantsMemory}
use Rattle.deku_bits.proofs.Causes.{mapped}
use Rattle.deku.proofs.Causes.{boxed, held, joined, under}
use Rattle.deku.proofs.laws.held_cause_law.Goals as goal

pub returns-clause-option_alone : goal.returns-clause-option_alone
returns-clause-option_alone g c x p = mapped NoKind Some (g.V.DekuReader.meaning x) p

pub returns-clause-option : goal.returns-clause-option
returns-clause-option g c x p = mapped WantsMemory Some (g.V.DekuReader.meaning x) p

pub returns-clause-boxed : goal.returns-clause-boxed
returns-clause-boxed g c x p = boxed _ (g.V.DekuReader.meaning x) p

pub returns-clause-slice : goal.returns-clause-slice
returns-clause-slice g c l x p = held WantsMemory _ _ (under _ _ l _ p)

pub returns-clause-set : goal.returns-clause-set
returns-clause-set g c l x p = held WantsMemory _ _ (under _ _ l _ p)

pub returns-clause-map : goal.returns-clause-map
returns-clause-map g c l x p q = held WantsMemory _ _ (under _ _ l _ (joined WantsMemory _ _ _ p q))
