-- What a list of fields finds in any stream that is known.
use Rattle.std.proofs.Common.{◌≡◌, ℕ, ◌+◌, Bool, true, false, Result, Ok, Err, Option, Some, List, [], ◌∷◌, map, length, refl, ap, sym, ◌∙◌, subst, inl, inr, arith}
use Rattle.std.proofs.lemmas.List.Elements.{All-cons, All-nil}
use Rattle.deku_bits.specs.declared.error.DekuError.{DekuError}
use Rattle.deku_bits.specs.declared.ctx.Order.{Order}
use Rattle.deku_bits.specs.Streams.{Stream, Has, taken, left}
use Rattle.deku_bits.specs.Pieces.{total}
use Rattle.deku_bits.specs.Devices.{Health}
use Rattle.deku_bits.specs.Standings.{Standing, Going}
use Rattle.deku_bits.specs.Outcomes.{Outcome, Value, Refusal}
use Rattle.deku_bits.specs.ReaderCalls.{TakesBits}
use Rattle.deku_bits.proofs.Handing.{meant}
use Rattle.deku_bits.proofs.ReaderLaws.{taken_length}
use Rattle.deku_num.specs.Numbers.{value, number, with_sign}
use Rattle.deku_num.specs.NumberCalls.{Refused, Passed}
use Rattle.deku.specs.Composing.{Answered, Second, First}
use Rattle.deku.proofs.Exact.{ok_is}
use Rattle.deku_fields.specs.declared.list.Number.{Number}
use Rattle.deku_fields.specs.declared.list.Field.{Field}
use Rattle.deku_fields.specs.Items.{IsNumber, IsWorth, IsAllowedField, ReadsValues, number_type, field_width, field_shape}
use Rattle.deku_fields.specs.ListCalls.{ReadsField, ReadsFields, ReadsList, number_of}
use Rattle.deku_fields.specs.Promise.{HasFound, FindsAny}

-- the number that is made of what a list of bits is worth is that
worth_of : (b : Bool) (w n : ℕ) → IsNumber b (with_sign b w n) (number_of b (with_sign b w n))
worth_of false w n = refl
worth_of true w n = refl

-- bits that were taken from a stream that is known
took_here : (o : Order) (n : ℕ) (S : Stream) (c : ℕ) (bits : List Bool) (u : Standing (Option Stream)) → TakesBits o n false (Going (Some S) c) (Ok bits) u
    → Has n S × (bits ≡ taken o n S) × (u ≡ Going (Some (left o n S)) (c + n))
took_here o n S c bits u (inl refused) = let e = refused.1.2 in absurd (cc)
took_here o n S c bits u (inr (a, inl p)) = (p.0, ok_is bits (taken o n S) p.1, p.2)
took_here o n S c bits u (inr (a, inr p)) = let e = p.1.0 in absurd (cc)

-- a field that was read has the bits that are taken, and is worth what they are
field_found : (f : Field) (n : Number) (S : Stream) (c : ℕ) (u : Standing (Option Stream)) → ReadsField f false (Going (Some S) c) (Ok n) u
    → IsAllowedField f × Has (field_width f) S × IsWorth f (taken f.layout.order (field_width f) S) n × (u ≡ Going (Some (left f.layout.order (field_width f) S)) (c + field_width f))
unfolding value
field_found f n S c u (Refusal x refused e) = absurd (cc)
field_found f n S c u (Value v (Refused b p) e) = let d = p.2 in absurd (cc)
field_found f n S c u (Value v (Passed (ok, Refusal x refused d)) e) = absurd (cc)
field_found f n S c u (Value v (Passed (ok, Value bits took d)) e) =
    let b : Bool = (number_type f.kind).signed in
    let w : ℕ = field_width f in
    let s : List Bool = taken f.layout.order w S in
    let t = took_here f.layout.order w S c bits u took in
    let long : length s ≡ w = ap length (sym t.1) ∙ taken_length f.layout.order w false (Going (Some S) c) bits u took in
    let is : n ≡ number_of b (value (number_type f.kind) f.layout s) =
    ok_is n (number_of b v) e ∙ ap (number_of b) (ok_is v _ d ∙ ap (value (number_type f.kind) f.layout) t.1) in
    (ok, t.0, record { wide = long; worth = subst (IsNumber b (value (number_type f.kind) f.layout s)) (sym is) (worth_of b (length s) (number f.layout.endian f.layout.order s)) }, t.2)

-- fields that were read
fields_found : (fs : List Field) (ns : List Number) (S : Stream) (c : ℕ) (u : Standing (Option Stream)) → ReadsFields fs false (Going (Some S) c) (Ok ns) u → HasFound fs S c ns u
fields_found [] ns S c u Answered =
    let none : c ≡ c + 0 = omega arith in
    record { allowed = All-nil IsAllowedField; rest = S; read = refl; stands = ap (λ k. Going (Some S) k) none }
fields_found (f ∷ fs) ns S c u (First x p e) = absurd (cc)
fields_found (f ∷ fs) ns S c u (Second n t p (Refusal x q e)) = absurd (cc)
fields_found (f ∷ fs) ns S c u (Second n t p (Value ms q e)) =
    let w : ℕ = field_width f in
    let first = field_found f n S c t p in
    let others = fields_found fs ms (left f.layout.order w S) (c + w) u (subst (λ x. ReadsFields fs false x (Ok ms) u) first.3 q) in
    let sum : c + w + total (map field_shape fs) ≡ c + (w + total (map field_shape fs)) = omega arith in
    record {
      allowed = All-cons IsAllowedField f fs first.0 others.allowed;
      rest = others.rest;
      read = subst (λ x. ReadsValues (f ∷ fs) S x others.rest) (sym (ok_is ns (n ∷ ms) e)) (first.1, first.2, others.read);
      stands = others.stands ∙ ap (λ k. Going (Some others.rest) k) sum;
    }

-- an outcome finds in a stream that is known what the fields read from it
pub finds_any : (fs : List Field) (r : Result (List Number) DekuError) (s : Standing (Option Stream)) {u : Standing (Option Stream)} {f g : Health} → Outcome (ReadsFields fs) s f r u g → FindsAny fs s r u
finds_any fs (Err x) s o S c e = tt
finds_any fs (Ok ns) s {u} o S c e = fields_found fs ns S c u (subst (λ x. ReadsFields fs false x (Ok ns) u) e (meant o).0)

-- the same in memory that is found first
pub vec_finds : (fs : List Field) (r : Result (List Number) DekuError) (s : Standing (Option Stream)) {u : Standing (Option Stream)} {f g : Health} → Outcome (ReadsList fs) s f r u g → FindsAny fs s r u
vec_finds fs (Err x) s o S c e = tt
vec_finds fs (Ok ns) s {u} o S c e = elim (meant o).0 [
  | inl refused ↦ let d = refused.0 in absurd (cc)
  | inr m ↦ fields_found fs ns S c u (subst (λ x. ReadsFields fs false x (Ok ns) u) e m)
]
