-- What the statuses of the exported functions say.
use Rattle.std.proofs.Common.{◌≡◌, ℕ, ◌<◌, ◌≤◌, ◌^◌, List, length, map, All, refl, arith}
use Rattle.deku_bits.specs.declared.error.DekuError.{DekuError}
use Rattle.deku_bits.specs.declared.error.DekuError.TheVariants.{Incomplete, Parse, InvalidParam, Assertion, IdVariantNotFound, Io}
use Rattle.deku_bits.specs.Pieces.{total}
use Rattle.deku_fields.specs.declared.list.Field.{Field}
use Rattle.deku_fields.specs.Items.{IsAllowedField, field_shape}
use Rattle.deku_c.specs.declared.codes.FieldCode.{FieldCode}
use Rattle.deku_c.specs.Codes.{IsNamed}
use Rattle.deku_c.specs.Calls.{status_of, Accepts, Counts}

later : (e : DekuError) → 3 ≤ status_of e
later (Incomplete need) = omega arith
later (Parse text) = omega arith
later (InvalidParam text) = omega arith
later (Assertion text) = omega arith
later IdVariantNotFound = omega arith
later (Io kind) = omega arith

-- ---- what is refused first
pub unnamed_first : (cs : List FieldCode) (count : ℕ) → (All IsNamed cs → ⊥) → Accepts cs count 1
unnamed_first cs count none = record {
  unnamed = (λ e. none, λ n. refl);
  miscounted = (λ e. absurd (omega (arith, e)), λ p. absurd (none p.0));
}

pub miscounted_next : (cs : List FieldCode) (count : ℕ) → All IsNamed cs → (count ≡ length cs → ⊥) → Accepts cs count 2
miscounted_next cs count all other = record {
  unnamed = (λ e. absurd (omega (arith, e)), λ n. absurd (n all));
  miscounted = (λ e. (all, other), λ p. refl);
}

accepted : (cs : List FieldCode) (count status : ℕ) → All IsNamed cs → count ≡ length cs → (status ≡ 1 → ⊥) → (status ≡ 2 → ⊥) → Accepts cs count status
accepted cs count status all same one two = record {
  unnamed = (λ e. absurd (one e), λ n. absurd (n all));
  miscounted = (λ e. absurd (two e), λ p. absurd (p.1 same));
}

pub accepted_ok : (cs : List FieldCode) (count : ℕ) → All IsNamed cs → count ≡ length cs → Accepts cs count 0
accepted_ok cs count all same = accepted cs count 0 all same (λ e. omega (arith, e)) (λ e. omega (arith, e))

pub accepted_err : (cs : List FieldCode) (count : ℕ) (e : DekuError) → All IsNamed cs → count ≡ length cs → Accepts cs count (status_of e)
accepted_err cs count e all same = accepted cs count (status_of e) all same (λ k. omega (arith, k, later e)) (λ k. omega (arith, k, later e))

-- ---- how many bits
pub counted : (fs : List Field) (old sum : ℕ) → All IsAllowedField fs → sum ≡ total (map field_shape fs) → sum < 2 ^ 64 → Counts fs 0 old sum
counted fs old sum all e l = record {
  counted = (λ k. (all, omega (arith, e, l)), λ p. refl);
  other = λ k. absurd (k refl);
  count = λ k. e;
}

pub uncounted : (fs : List Field) (old : ℕ) → (All IsAllowedField fs → 2 ^ 64 ≤ total (map field_shape fs)) → Counts fs 5 old old
uncounted fs old past = record {
  counted = (λ k. absurd (omega (arith, k)), λ p. absurd (omega (arith, p.1, past p.0)));
  other = λ k. (refl, refl);
  count = λ k. absurd (omega (arith, k));
}
