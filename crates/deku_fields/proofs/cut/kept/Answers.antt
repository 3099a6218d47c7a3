-- What is left of a number is the number, or what it is modulo two to the width, with its sign.
use Rattle.std.proofs.Common.{◌≡◌, true, false, ap, ◌∙◌, arith, rules}
use mir.Syntax.{w128}
use mir.Val.{SFits}
use Rattle.std.proofs.lemmas.Int.{to_z-of_z}
use Rattle.deku_num.specs.NumberLaws.{residue}
use Rattle.deku_fields.specs.Items.{number_type}
use Rattle.deku_fields.specs.Cutting.{AdmitsCut, cuts}
use Rattle.deku_fields.specs.declared.list.Number.TheVariants.{Unsigned, Signed}
use Rattle.deku_fields.proofs.Cutting.{uncut, unsigned_kept, signed_kept, few_bits}
use Rattle.deku_fields.proofs.cut.kept.Goals as goal

pub returns-then-not-is_cut : goal.returns-then-not-is_cut
returns-then-not-is_cut c =
    let whole : cuts (number_type c.args.field.kind) c.args.field.layout.size ≡ false = search rules in
    uncut c.args.field c.args.number c.requires.admits whole

pub returns-in-Unsigned : goal.returns-in-Unsigned
returns-in-Unsigned c =
    let cut : cuts (number_type c.args.field.kind) c.args.field.layout.size ≡ true = search rules in
    let admits : AdmitsCut c.args.field (Unsigned c.in-Unsigned.value) = search rules in
    rw c.in-Unsigned.is (unsigned_kept c.args.field c.in-Unsigned.value _ c.args.width admits cut c.requires.wide c.low_bits.ensures)

pub low_bits-requires : goal.low_bits-requires
low_bits-requires c = few_bits c.args.field c.args.width c.requires.admits.allowed c.requires.wide

pub residue_of-requires : goal.residue_of-requires
residue_of-requires c = few_bits c.args.field c.args.width c.requires.admits.allowed c.requires.wide

pub sign_extend-requires-clause-wide : goal.sign_extend-requires-clause-wide
sign_extend-requires-clause-wide c = let few = few_bits c.args.field c.args.width c.requires.admits.allowed c.requires.wide in omega (arith, few)

pub returns-in-Signed : goal.returns-in-Signed
returns-in-Signed c =
    let cut : cuts (number_type c.args.field.kind) c.args.field.layout.size ≡ true = search rules in
    let admits : AdmitsCut c.args.field (Signed c.in-Signed.value) = search rules in
    let fits : SFits w128 c.in-Signed.value = search rules in
    let worth : SFits w128 c.sign_extend.result = search rules in
    rw (c.in-Signed.is, to_z-of_z w128 c.sign_extend.result worth)
    (signed_kept c.args.field c.in-Signed.value c.sign_extend.result c.residue_of.result c.args.width admits cut c.requires.wide
    (c.residue_of.ensures ∙ ap (λ v. residue v c.args.width) (to_z-of_z w128 c.in-Signed.value fits)) c.sign_extend.ensures)
