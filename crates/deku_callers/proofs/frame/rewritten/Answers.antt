use Rattle.std.proofs.Common.{◌<◌, All, rules}
use Rattle.std.proofs.lemmas.List.Elements.{All-from_get_or}
use Rattle.deku_callers.proofs.Beginnings.{begins}
use Rattle.deku_callers.proofs.frame.rewritten.Goals as goal

pub returns : goal.returns
returns c =
    let bytes = c.args.bytes.now in
    let all : All (λ b. b < 256) bytes = All-from_get_or (λ b. b < 256) bytes 0 (λ i inside. search (rules, c.type_inv.bytes i)) in
    let found = c.rewrite_law.ensures bytes (c.in_ok-_rest._rest, c.in_ok-_rest.frame) all c.in_ok-_rest.ensures in
    begins bytes _ c.in_ok-_rest.frame found.0 found.1 found.2 c.to_bytes.result (c.write_law.ensures c.in_ok-_rest.frame found.0 c.to_bytes.result found.1 c.to_bytes.ensures)
