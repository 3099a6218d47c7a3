use Rattle.std.proofs.Common.{◌<◌, All, rules}
use Rattle.std.proofs.lemmas.List.Elements.{All-from_get_or}
use Rattle.deku_callers.proofs.Headers.{udp_rewritten}
use Rattle.deku_callers.proofs.record.rewritten.Goals as goal

pub returns : goal.returns
returns c =
    let bytes = c.args.bytes.now in
    let all : All (λ b. b < 256) bytes = All-from_get_or (λ b. b < 256) bytes 0 (λ i inside. search (rules, c.type_inv.bytes i)) in
    udp_rewritten c.to_bytes_law.ensures c.from_bytes_law.ensures.found c.whole_bytes_law.ensures c.length_law.ensures bytes all (c.in_ok-_rest._rest, c.in_ok-_rest.header) c.in_ok-_rest.ensures c.to_bytes.result c.to_bytes.ensures
