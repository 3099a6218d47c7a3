use Rattle.std.proofs.Common.{rules, refl, arith}
use Rattle.deku_reading.proofs.Judging.{held_let_go, within_count, past_count}
use Rattle.deku_reading.proofs.impls.gather.gather_under.Goals as goal

pub returns-in-Count-clause-reads : goal.returns-in-Count-clause-reads
returns-in-Count-clause-reads g c = rw c.in-Count.is c.gather_count.ensures.reads

pub returns-in-Until-clause-reads : goal.returns-in-Until-clause-reads
returns-in-Until-clause-reads g c = rw c.in-Until.is (held_let_go _ _ (search rules) c.gather_until-gathered.ensures.reads)

pub returns-in-Some-clause-reads : goal.returns-in-Some-clause-reads
returns-in-Some-clause-reads g c =
    let bits = c.in-Some.ensures in
    rw c.in-ByteSize.is (within_count c.in-ByteSize.field-0.0 c.in-Some.bits (omega (arith, bits.0)) (omega (arith, bits.1)) c.gather_bits.ensures.reads)

pub returns-in-None-clause-reads : goal.returns-in-None-clause-reads
returns-in-None-clause-reads g c = rw c.in-ByteSize.is (past_count c.in-ByteSize.field-0.0 _ refl (omega (arith, c.in-None.ensures)))

pub returns-in-BitSize-clause-reads : goal.returns-in-BitSize-clause-reads
returns-in-BitSize-clause-reads g c = rw c.in-BitSize.is c.gather_bits-in-BitSize.ensures.reads

pub returns-in-End-clause-reads : goal.returns-in-End-clause-reads
returns-in-End-clause-reads g c = rw c.in-End.is c.gather_to_end.ensures

pub returns-in-Count-clause-early : goal.returns-in-Count-clause-early
returns-in-Count-clause-early g c = search (rules, c.gather_count.ensures.early)

pub returns-in-Until-clause-early : goal.returns-in-Until-clause-early
returns-in-Until-clause-early g c = search (rules, c.gather_until-gathered.ensures.early)

pub returns-in-Some-clause-early : goal.returns-in-Some-clause-early
returns-in-Some-clause-early g c = search (rules, c.gather_bits.ensures.early)

pub returns-in-BitSize-clause-early : goal.returns-in-BitSize-clause-early
returns-in-BitSize-clause-early g c = search (rules, c.gather_bits-in-BitSize.ensures.early)

pub returns-in-End-clause-early : goal.returns-in-End-clause-early
returns-in-End-clause-early g c = search rules
