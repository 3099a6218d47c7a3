use Rattle.std.proofs.Common.{◌∙◌, sym}
use Rattle.deku_formats.proofs.Carrying.{stepped}
use Rattle.deku_formats.proofs.LastByte.{ended, whole}
use Rattle.deku_formats.proofs.checksum.ones_sum.Goals as goal

pub loop-rest-preserved : goal.loop-rest-preserved
loop-rest-preserved c =
    let before = c.loop-rest in
    (c.add-sum.type_inv, before.invariant.1 ∙ stepped before.sum c.add-sum.result before.rest.now c.add-sum.ensures c.in-len2-up.len_at_least)

pub returns-in-len1 : goal.returns-in-len1
returns-in-len1 c =
    let before = c.loop-rest in
    ended before.sum c.add.result before.rest.now c.add.ensures c.in-len1.len_at_least c.in-len1.len_below ∙ sym before.invariant.1

pub returns-in_default-rest : goal.returns-in_default-rest
returns-in_default-rest c =
    let before = c.loop-rest in
    whole before.sum before.rest.now before.invariant.0 c.in_default-rest.len_below ∙ sym before.invariant.1
