use Rattle.std.proofs.Common.{ap, sym, ◌∙◌, arith}
use Rattle.std.proofs.lemmas.Int.{ints}
use Rattle.deku_bits.proofs.Handing.{passed_on, mapped_err}
use Rattle.deku_fields.specs.ListCalls.{number_of}
use Rattle.deku_fields.specs.Items.{number_type}
use Rattle.deku_fields.proofs.Stepping.{signed_field, unsigned_field}
use Rattle.deku_plan.proofs.plan.read.read_checked.Goals as goal

pub returns-in_err-value-clause-reads : goal.returns-in_err-value-clause-reads
returns-in_err-value-clause-reads g c =
    passed_on _ c.from_residual.ensures.1 (mapped_err (number_of (number_type c.args.field.now.kind).signed) (rw (c.number_type-number_type.ensures) at c.in_err-value.ensures.reads))

pub returns-in_err-value-2-clause-reads : goal.returns-in_err-value-2-clause-reads
returns-in_err-value-2-clause-reads g c =
    passed_on _ c.from_residual-in_err-value-2.ensures.1 (mapped_err (number_of (number_type c.args.field.now.kind).signed) (rw (c.number_type-number_type.ensures) at c.in_err-value-2.ensures.reads))

pub returns-in_ok-value-clause-reads : goal.returns-in_ok-value-clause-reads
returns-in_ok-value-clause-reads g c =
    signed_field c.args.field.now (ap (λ t. t.signed) (sym c.number_type-number_type.ensures) ∙ c.if-number_type.true) (omega (arith, ints)) (rw (c.number_type-number_type.ensures) at c.in_ok-value.ensures.reads)

pub returns-in_ok-value-2-clause-reads : goal.returns-in_ok-value-2-clause-reads
returns-in_ok-value-2-clause-reads g c =
    unsigned_field c.args.field.now (ap (λ t. t.signed) (sym c.number_type-number_type.ensures) ∙ c.if-number_type.false) (rw (c.number_type-number_type.ensures) at c.in_ok-value-2.ensures.reads)

pub returns-in_ok-value-clause-fetched : goal.returns-in_ok-value-clause-fetched
returns-in_ok-value-clause-fetched g c = rw (c.number_type-number_type.ensures) at c.in_ok-value.ensures.fetched

pub returns-in_ok-value-2-clause-fetched : goal.returns-in_ok-value-2-clause-fetched
returns-in_ok-value-2-clause-fetched g c = rw (c.number_type-number_type.ensures) at c.in_ok-value-2.ensures.fetched
