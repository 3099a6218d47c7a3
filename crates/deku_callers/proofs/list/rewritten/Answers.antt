use Rattle.std.proofs.Common.{◌<◌, All, rules, sym, subst}
use Rattle.std.proofs.lemmas.List.Elements.{All-from_get_or}
use Rattle.deku_bits.specs.Streams.{fresh}
use Rattle.deku_fields.specs.Items.{ReadsValues}
use Rattle.deku_fields.specs.Promise.{WritesBack}
use Rattle.deku_callers.proofs.Taken.{written_again, read_length}
use Rattle.deku_callers.proofs.list.rewritten.Goals as goal

pub returns : goal.returns
returns c =
    let fields = c.args.fields.now in
    let bytes = c.args.bytes.now in
    let values = c.as_slice.result.now in
    let all : All (λ b. b < 256) bytes = All-from_get_or (λ b. b < 256) bytes 0 (λ i inside. search (rules, c.type_inv.bytes i)) in
    let found = c.in_ok-_bits.ensures.found in
    let reads : ReadsValues fields (fresh bytes) values found.1.0 = subst (λ x. ReadsValues fields (fresh bytes) x found.1.0) (sym c.as_slice.ensures.value) found.1.1 in
    let made = c.in_ok-items.ensures (read_length fields (fresh bytes) values found.1.0 reads) in
    let writes : WritesBack c.in_ok-items.items.items c.list_to_bytes.result = subst (λ x. WritesBack x c.list_to_bytes.result) c.as_slice-2.ensures.value c.list_to_bytes.ensures.back in
    written_again c.back_law.ensures c.layout_law.ensures fields bytes values c.in_ok-items.items.items c.list_to_bytes.result all made.0 made.1 found.0 found.1.0 reads writes
