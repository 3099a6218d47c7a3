use Rattle.std.proofs.Common.{rules, ◌-◌, ◌*◌, ◌/◌, ◌^◌, ◌∙◌, ap}
use Rattle.std.specs.Int.{w64, to_le_bytes}
use Rattle.deku_device.proofs.Ends.{ended}
use Rattle.deku_device.proofs.device.cursor.end_of.Goals as goal

pub returns : goal.returns
returns c =
    c.to_le_bytes.ensures
    ∙ ap (λ word. to_le_bytes w64 (word / 2 ^ (56 - 8 * c.args.count) / 2 ^ 8)) c.from_le_bytes.ensures
    ∙ ended c.args.eight c.args.count (search rules) c.requires (λ i. search rules)
