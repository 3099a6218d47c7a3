use Rattle.std.proofs.Common.{All, arith, rules}
use Rattle.std.proofs.lemmas.List.Elements.{All-from_get_or}
use Rattle.std.proofs.lemmas.Result.{on_ok_weaker, IfErr-weaker}
use Rattle.deku_stream.proofs.Bytes.{IsByte}
use Rattle.deku_writer.proofs.WholeBytes.{given_at_once, bytes_onto_none, bytes_onto_same, bytes_onto_other, bytes_stopped_none, bytes_stopped_same, bytes_stopped_other}
use Rattle.deku_writer.proofs.writer.bytes.push_bytes_onto.Goals as goal

pub returns-then-len-eq0-clause-pushed : goal.returns-then-len-eq0-clause-pushed
returns-then-len-eq0-clause-pushed g c =
    let all : All IsByte c.args.bytes.now = All-from_get_or IsByte c.args.bytes.now 0 (λ i inside. search (rules, c.type_inv.bytes i)) in
    on_ok_weaker c.give_out.result
    (λ m. bytes_onto_none _ _ c.args.from c.args.held.now c.args.bytes.now (omega arith) c.requires.some (given_at_once _ _ c.args.bytes.now all m))
    c.give_out.ensures.gave

pub returns-in-Msb0-clause-pushed : goal.returns-in-Msb0-clause-pushed
returns-in-Msb0-clause-pushed g c =
    rw c.in-Msb0.is (on_ok_weaker c.push_bytes.result
    (λ m. bytes_onto_same _ _ c.args.held.now _ c.args.bytes.now c.requires.some m)
    c.push_bytes.ensures.pushed)

pub returns-in-Lsb0-clause-pushed : goal.returns-in-Lsb0-clause-pushed
returns-in-Lsb0-clause-pushed g c =
    let all : All IsByte c.args.bytes.now = All-from_get_or IsByte c.args.bytes.now 0 (λ i inside. search (rules, c.type_inv.bytes i)) in
    rw c.in-Lsb0.is (on_ok_weaker c.give_above.result
    (λ m. bytes_onto_other _ _ c.args.held.now c.args.bytes.now (omega arith) c.requires.short c.requires.some all m)
    c.give_above.ensures.gave)

pub returns-then-len-eq0-clause-fault : goal.returns-then-len-eq0-clause-fault
returns-then-len-eq0-clause-fault g c =
    let all : All IsByte c.args.bytes.now = All-from_get_or IsByte c.args.bytes.now 0 (λ i inside. search (rules, c.type_inv.bytes i)) in
    IfErr-weaker c.give_out.result _ _ (λ k f. bytes_stopped_none _ _ c.args.from c.args.held.now c.args.bytes.now k (omega arith) c.requires.some all f) c.give_out.ensures.fault

pub returns-in-Msb0-clause-fault : goal.returns-in-Msb0-clause-fault
returns-in-Msb0-clause-fault g c =
    rw c.in-Msb0.is (IfErr-weaker c.push_bytes.result _ _ (λ k f. bytes_stopped_same _ _ c.args.held.now c.args.bytes.now k c.requires.some f) c.push_bytes.ensures.fault)

pub returns-in-Lsb0-clause-fault : goal.returns-in-Lsb0-clause-fault
returns-in-Lsb0-clause-fault g c =
    let all : All IsByte c.args.bytes.now = All-from_get_or IsByte c.args.bytes.now 0 (λ i inside. search (rules, c.type_inv.bytes i)) in
    rw c.in-Lsb0.is (IfErr-weaker c.give_above.result _ _
    (λ k f. bytes_stopped_other _ _ c.args.held.now c.args.bytes.now k (omega arith) c.requires.short c.requires.some all f) c.give_above.ensures.fault)
