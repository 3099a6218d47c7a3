use Rattle.std.proofs.Common.{◌≡◌, codes, rules}
use Rattle.std.specs.Prelude.{string_bytes}
use Rattle.deku_picture.proofs.Forms.{svg_form, bytes_form}
use Rattle.deku_picture.proofs.program.split_form.Goals as goal

pub returns-in-Some-split_first : goal.returns-in-Some-split_first
returns-in-Some-split_first c =
    let named : string_bytes c.in-Some.first.now ≡ codes "--bytes" = search rules in
    bytes_form c.args.args.now c.in-Some.rest.now c.in-Some-split_first.specs.now c.in-Some.first.now c.in-Some-split_first.text.now c.as_str-in-Some-split_first.result
    c.in-Some.ensures.cases.0 named c.in-Some-split_first.ensures.cases.0 c.as_str-in-Some-split_first.ensures.value

pub returns-in-text : goal.returns-in-text
returns-in-text c =
    let named : string_bytes c.in-Some.first.now ≡ codes "--svg" = search rules in
    svg_form c.args.args.now c.in-Some.rest.now c.in-Some.first.now c.in-Some.ensures.cases.0 named
