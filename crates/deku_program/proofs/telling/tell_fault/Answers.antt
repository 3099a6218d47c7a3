use Rattle.std.proofs.Common.{◌++◌, [], ◌∷◌, codes}
use Rattle.deku_program.specs.Told.{joined_text, fault_text}
use Rattle.deku_program.proofs.Giving.{begun_first, begun_second, begun_third, given_three, begun_end, given_end, begun_short}
use Rattle.deku_program.proofs.telling.tell_fault.Goals as goal

pub returns-in_err-give_text-clause-begun : goal.returns-in_err-give_text-clause-begun
returns-in_err-give_text-clause-begun g c =
    let told = g.W.Write.contents in
    begun_first (told c.args.output.now) (told c.give_text.new.output) (codes "error: ") (fault_text c.args.fault.now) (joined_text c.args.more.now) (10 ∷ [])
    (begun_short (told c.args.output.now) (told c.give_text.new.output) (codes "error: ") c.in_err-give_text.ensures.cut)

pub returns-in_err-give_fault-clause-begun : goal.returns-in_err-give_fault-clause-begun
returns-in_err-give_fault-clause-begun g c =
    let told = g.W.Write.contents in
    begun_second (told c.args.output.now) (told c.give_text.new.output) (told c.give_fault.new.output) (codes "error: ") (fault_text c.args.fault.now) (joined_text c.args.more.now) (10 ∷ [])
    c.in_ok-give_text.ensures.given c.give_fault.ensures.begun

pub returns-in_err-give_parts-clause-begun : goal.returns-in_err-give_parts-clause-begun
returns-in_err-give_parts-clause-begun g c =
    let told = g.W.Write.contents in
    begun_third (told c.args.output.now) (told c.give_text.new.output) (told c.give_fault.new.output) (told c.give_parts.new.output) (codes "error: ") (fault_text c.args.fault.now) (joined_text c.args.more.now) (10 ∷ [])
    c.in_ok-give_text.ensures.given c.in_ok-give_fault.ensures.given c.give_parts.ensures.begun

pub returns-clause-told : goal.returns-clause-told
returns-clause-told g c =
    let told = g.W.Write.contents in
    let three = given_three (told c.args.output.now) (told c.give_text.new.output) (told c.give_fault.new.output) (told c.give_parts.new.output) (codes "error: ") (fault_text c.args.fault.now) (joined_text c.args.more.now)
    c.in_ok-give_text.ensures.given c.in_ok-give_fault.ensures.given c.in_ok-give_parts.ensures.given in
    given_end c.give_text-2.result (told c.args.output.now) (told c.give_parts.new.output) (told c.give_text-2.new.output) (codes "error: " ++ (fault_text c.args.fault.now ++ joined_text c.args.more.now)) (10 ∷ []) three c.give_text-2.ensures.given

pub returns-clause-begun : goal.returns-clause-begun
returns-clause-begun g c =
    let told = g.W.Write.contents in
    let three = given_three (told c.args.output.now) (told c.give_text.new.output) (told c.give_fault.new.output) (told c.give_parts.new.output) (codes "error: ") (fault_text c.args.fault.now) (joined_text c.args.more.now)
    c.in_ok-give_text.ensures.given c.in_ok-give_fault.ensures.given c.in_ok-give_parts.ensures.given in
    begun_end c.give_text-2.result (told c.args.output.now) (told c.give_parts.new.output) (told c.give_text-2.new.output) (codes "error: " ++ (fault_text c.args.fault.now ++ joined_text c.args.more.now)) (10 ∷ []) three c.give_text-2.ensures.given c.give_text-2.ensures.cut
