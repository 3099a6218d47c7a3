use Rattle.deku.proofs.Sizing.{joined_kept}
use Rattle.deku.proofs.laws.tuple_extent_law.Goals as goal

pub returns-clause-one : goal.returns-clause-one
returns-clause-one g c v p = p

pub returns-clause-two : goal.returns-clause-two
returns-clause-two g c v p q = joined_kept _ _ _ _ p q

pub returns-clause-three : goal.returns-clause-three
returns-clause-three g c v p q = joined_kept _ _ _ _ p q

pub returns-clause-four : goal.returns-clause-four
returns-clause-four g c v p q = joined_kept _ _ _ _ p q

pub returns-clause-five : goal.returns-clause-five
returns-clause-five g c v p q = joined_kept _ _ _ _ p q

pub returns-clause-six : goal.returns-clause-six
returns-clause-six g c v p q = joined_kept _ _ _ _ p q

pub returns-clause-seven : goal.returns-clause-seven
returns-clause-seven g c v p q = joined_kept _ _ _ _ p q

pub returns-clause-eight : goal.returns-clause-eight
returns-clause-eight g c v p q = joined_kept _ _ _ _ p q

pub returns-clause-nine : goal.returns-clause-nine
returns-clause-nine g c v p q = joined_kept _ _ _ _ p q

pub returns-clause-ten : goal.returns-clause-ten
returns-clause-ten g c v p q = joined_kept _ _ _ _ p q

pub returns-clause-eleven : goal.returns-clause-eleven
returns-clause-eleven g c v p q = joined_kept _ _ _ _ p q
