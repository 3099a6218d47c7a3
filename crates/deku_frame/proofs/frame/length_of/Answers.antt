use Rattle.std.proofs.Common.{◌<◌, rules}
use Rattle.std.proofs.lemmas.List.Elements.{All-from_get_or}
use Rattle.deku_frame.proofs.frame.length_of.Goals as goal

pub returns-clause-octets : goal.returns-clause-octets
returns-clause-octets c = All-from_get_or (λ b. b < 256) c.args.bytes.now 0 (λ i inside. search (rules, c.type_inv.bytes i))

pub returns-in_err-length-clause-octets : goal.returns-in_err-length-clause-octets
returns-in_err-length-clause-octets c = All-from_get_or (λ b. b < 256) c.args.bytes.now 0 (λ i inside. search (rules, c.type_inv.bytes i))

pub returns-clause-ok : goal.returns-clause-ok
returns-clause-ok c = search rules
