use Rattle.std.proofs.Common.{All, rules}
use Rattle.std.proofs.lemmas.List.Elements.{All-from_get_or, All-append, All-take, All-drop, All-replicate}
use Rattle.deku_bits.proofs.Bytes.{IsByte}
use Rattle.deku_writing.proofs.impls.bytes.padded.Goals as goal

pub returns-then-n-eq8-clause-bytes : goal.returns-then-n-eq8-clause-bytes
returns-then-n-eq8-clause-bytes c =
    let all : All IsByte c.args.bytes.now = All-from_get_or IsByte c.args.bytes.now 0 (λ i inside. search (rules, c.type_inv.bytes i)) in
    rw c.copy_from_slice.ensures.after (All-take IsByte 8 c.args.bytes.now all)

pub returns-else-n-eq8-clause-bytes : goal.returns-else-n-eq8-clause-bytes
returns-else-n-eq8-clause-bytes c =
    let all : All IsByte c.args.bytes.now = All-from_get_or IsByte c.args.bytes.now 0 (λ i inside. search (rules, c.type_inv.bytes i)) in
    rw c.copy_from_slice-else-n-eq8.ensures.after (All-append IsByte _ _ (All-take IsByte c.args.n c.args.bytes.now all) (All-drop IsByte c.args.n _ (All-replicate IsByte 8 0 (search rules))))
