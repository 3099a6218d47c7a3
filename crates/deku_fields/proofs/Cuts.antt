-- Lists that are cut: calls one after the other are one call.
use Rattle.std.proofs.Common.{◌≡◌, ℕ, zero, suc, flat_map, inl, inr, Bool, true, false, List, [], ◌∷◌, ◌++◌, Option, Some, Result, Ok, Err, refl, sym, subst}
use Rattle.deku_bits.specs.declared.error.DekuError.{DekuError}
use Rattle.deku_bits.specs.Streams.{Stream}
use Rattle.deku_bits.specs.Devices.{Health, DeviceKept}
use Rattle.deku_bits.specs.Standings.{Standing, Going, Output}
use Rattle.deku_bits.specs.Outcomes.{Meaning, Outcome, Quiet, Broken, Mapped, Value, Refusal}
use Rattle.deku_bits.specs.ReaderCalls.{Ending}
use Rattle.deku_bits.proofs.Handing.{mapped_ok, mapped_err, meant, no_fewer_on, more_on}
use Rattle.deku_num.specs.NumberCalls.{Refused, Passed}
use Rattle.deku.specs.Composing.{Answer, Answered, Then, Second, First, Both}
use Rattle.deku.proofs.Exact.{ok_is}
use Rattle.deku.proofs.Joining.{first_refused, then_on}
use Rattle.deku_fields.specs.declared.list.Number.{Number}
use Rattle.deku_fields.specs.declared.list.Field.{Field}
use Rattle.deku_fields.specs.declared.list.Item.{Item}
use Rattle.deku_fields.specs.ListCalls.{ReadsField, ReadsFields, WritesItems}
use Rattle.deku_fields.specs.Cuts.{WriteCutLaw, WriteCallsLaw, WritePartsLaw, joined, ReadCutLaw, ReadCallsLaw, LookLaw, Looking, ReadsParts, ReadPartsLaw}

-- ---- three meanings in turn
inward : {A V W X : Type 0} {m : Meaning A V} {k : V → Meaning A W} {l : W → Meaning A X} (b : Bool) (s : Standing A) (r : Result X DekuError) (u : Standing A)
    → Then (Then m k) l b s r u → Then m (λ v. Then (k v) l) b s r u
inward b s r u (Second w t (Second v x p q) z) = Second v x p (Second w t q z)
inward b s r u (Second w t (First e p q) z) = absurd (cc)
inward b s r u (First e (Second v x p q) z) = Second v x p (First e q z)
inward b s r u (First e (First d p q) z) = let f : e ≡ d = cc in First d p (subst (λ x. r ≡ Err x) f z)

outward : {A V W X : Type 0} {m : Meaning A V} {k : V → Meaning A W} {l : W → Meaning A X} (b : Bool) (s : Standing A) (r : Result X DekuError) (u : Standing A)
    → Then m (λ v. Then (k v) l) b s r u → Then (Then m k) l b s r u
outward b s r u (Second v x p (Second w t q z)) = Second w t (Second v x p q) z
outward b s r u (Second v x p (First e q z)) = First e (Second v x p q) z
outward b s r u (First e p z) = First e (First e p refl) z

-- what follows may say the same otherwise
onward : {A V W : Type 0} {m : Meaning A V} {k l : V → Meaning A W} (b : Bool) (s : Standing A) (r : Result W DekuError) (u : Standing A)
    → ((v : V) (t : Standing A) → k v b t r u → l v b t r u) → Then m k b s r u → Then m l b s r u
onward b s r u h (Second v t p q) = Second v t p (h v t q)
onward b s r u h (First e p q) = First e p q

-- ---- nothing before
answer_is : {A V : Type 0} {v : V} {b : Bool} {s : Standing A} {r : Result V DekuError} {u : Standing A} → Answer v b s r u → (r ≡ Ok v) × (u ≡ s)
answer_is Answered = (refl, refl)

after_nothing : {A V W : Type 0} {v : V} {k : V → Meaning A W} (b : Bool) (s : Standing A) (r : Result W DekuError) (u : Standing A) → Then (Answer v) k b s r u → k v b s r u
after_nothing {v} {k} b s r u (Second w t p q) =
    let a = answer_is p in
    subst (λ x. k x b s r u) (ok_is _ _ (a.0)) (subst (λ x. k w b x r u) a.1 q)
after_nothing b s r u (First e p q) = let a = (answer_is p).0 in absurd (cc)

-- ---- writing
pub write_cut : WriteCutLaw
write_cut [] ys b s r u = (λ p. Second tt s Answered p, λ p. after_nothing b s r u p)
write_cut (x ∷ xs) ys b s r u = (
  λ p. outward b s r u (onward b s r u (λ v t q. (write_cut xs ys b t r u).0 q) p),
  λ p. onward b s r u (λ v t q. (write_cut xs ys b t r u).1 q) (inward b s r u p),
)

-- the same of outcomes
written_on : (xs ys : List Item) (s : Standing Output) (f : Health) (r : Result (Unit {0}) DekuError) (u : Standing Output) (g : Health)
    → Outcome (Both (WritesItems xs) (WritesItems ys)) s f r u g → Outcome (WritesItems (xs ++ ys)) s f r u g
written_on xs ys s f r u g (Quiet p q) = Quiet ((write_cut xs ys _ s r u).1 p) q
written_on xs ys s f r u g (Broken a p q) = Broken a ((write_cut xs ys _ s r u).1 p) q

pub write_calls : WriteCallsLaw
write_calls = record {
  both = λ xs ys s t u f g h r a b. written_on xs ys s f r u h (then_on a b);
  refused = λ xs ys s t f g e a. written_on xs ys s f (Err e) t g (first_refused a);
}

pub write_parts : WritePartsLaw
write_parts [] b s r u = (λ p. p, λ p. p)
write_parts (xs ∷ parts) b s r u =
    let rest : List Item = flat_map (λ x. x) parts in (
      λ p. (write_cut xs rest b s r u).1 (onward b s r u (λ v t q. (write_parts parts b t r u).0 q) p),
      λ p. onward b s r u (λ v t q. (write_parts parts b t r u).1 q) ((write_cut xs rest b s r u).0 p),
    )

-- ---- reading
-- fields are read, and their values joined to those before
abbrev Joins : List Field → List Number → Meaning (Option Stream) (List Number)
Joins gs ns = Mapped (λ ms. ns ++ ms) (ReadsFields gs)

-- a value in front of values that are read in two parts
parted : {m : Meaning (Option Stream) (List Number)} (n : Number) (gs : List Field) (b : Bool) (s : Standing (Option Stream)) (r : Result (List Number) DekuError) (u : Standing (Option Stream))
    → Mapped (λ ns. n ∷ ns) (Then m (Joins gs)) b s r u → Then (Mapped (λ ns. n ∷ ns) m) (Joins gs) b s r u
parted n gs b s r u (Value x (Second w t p (Value y q e)) z) = Second (n ∷ w) t (Value w p refl) (Value y q (let f : x ≡ w ++ y = ok_is _ _ e in cc))
parted n gs b s r u (Value x (Second w t p (Refusal d q e)) z) = absurd (cc)
parted n gs b s r u (Value x (First d p e) z) = absurd (cc)
parted n gs b s r u (Refusal d (Second w t p (Value y q e)) z) = absurd (cc)
parted n gs b s r u (Refusal d (Second w t p (Refusal x q e)) z) = Second (n ∷ w) t (Value w p refl) (Refusal x q (let f : d ≡ x = cc in cc))
parted n gs b s r u (Refusal d (First x p e) z) = First x (Refusal x p refl) (let f : d ≡ x = cc in cc)

united : {m : Meaning (Option Stream) (List Number)} (n : Number) (gs : List Field) (b : Bool) (s : Standing (Option Stream)) (r : Result (List Number) DekuError) (u : Standing (Option Stream))
    → Then (Mapped (λ ns. n ∷ ns) m) (Joins gs) b s r u → Mapped (λ ns. n ∷ ns) (Then m (Joins gs)) b s r u
united n gs b s r u (Second v t (Value w p e) (Value x q z)) = Value (w ++ x) (Second w t p (Value x q refl)) (let f : v ≡ n ∷ w = ok_is _ _ e in subst (λ y. r ≡ Ok (y ++ x)) f z)
united n gs b s r u (Second v t (Value w p e) (Refusal d q z)) = Refusal d (Second w t p (Refusal d q refl)) z
united n gs b s r u (Second v t (Refusal d p e) q) = absurd (cc)
united n gs b s r u (First d (Value w p e) z) = absurd (cc)
united n gs b s r u (First d (Refusal x p e) z) = Refusal x (First x p refl) (let f : d ≡ x = cc in cc)

-- values before which none were read
alone : (gs : List Field) (b : Bool) (s : Standing (Option Stream)) (r : Result (List Number) DekuError) (u : Standing (Option Stream)) → ReadsFields gs b s r u → Joins gs [] b s r u
alone gs b s (Ok ms) u p = Value ms p refl
alone gs b s (Err e) u p = Refusal e p refl

not_alone : (gs : List Field) (b : Bool) (s : Standing (Option Stream)) (r : Result (List Number) DekuError) (u : Standing (Option Stream)) → Joins gs [] b s r u → ReadsFields gs b s r u
not_alone gs b s r u (Value ms p e) = subst (λ x. ReadsFields gs b s x u) (sym e) p
not_alone gs b s r u (Refusal d p e) = subst (λ x. ReadsFields gs b s x u) (sym e) p

mapped_on : {A V W : Type 0} {m n : Meaning A V} {h : V → W} (b : Bool) (s : Standing A) (r : Result W DekuError) (u : Standing A)
    → ((x : Result V DekuError) → m b s x u → n b s x u) → Mapped h m b s r u → Mapped h n b s r u
mapped_on b s r u k (Value v p e) = Value v (k (Ok v) p) e
mapped_on b s r u k (Refusal d p e) = Refusal d (k (Err d) p) e

pub read_cut : ReadCutLaw
read_cut [] gs b s r u = (λ p. Second [] s Answered (alone gs b s r u p), λ p. not_alone gs b s r u (after_nothing b s r u p))
read_cut (x ∷ fs) gs b s r u = (
  λ p. outward b s r u (onward b s r u (λ n t q. parted n gs b t r u (mapped_on b t r u (λ y. (read_cut fs gs b t y u).0) q)) p),
  λ p. onward b s r u (λ n t q. mapped_on b t r u (λ y. (read_cut fs gs b t y u).1) (united n gs b t r u q)) (inward b s r u p),
)

-- the same of outcomes
read_on : (fs gs : List Field) (s : Standing (Option Stream)) (f : Health) (r : Result (List Number) DekuError) (u : Standing (Option Stream)) (g : Health)
    → Outcome (Then (ReadsFields fs) (Joins gs)) s f r u g → Outcome (ReadsFields (fs ++ gs)) s f r u g
read_on fs gs s f r u g (Quiet p q) = Quiet ((read_cut fs gs _ s r u).1 p) q
read_on fs gs s f r u g (Broken a p q) = Broken a ((read_cut fs gs _ s r u).1 p) q

joins_on : (gs : List Field) (ns : List Number) (t : Standing (Option Stream)) (g : Health) (r : Result (List Number) DekuError) (u : Standing (Option Stream)) (h : Health)
    → Outcome (ReadsFields gs) t g r u h → Outcome (Joins gs ns) t g (joined ns r) u h
joins_on gs ns t g (Ok ms) u h o = mapped_ok (λ ms. ns ++ ms) o
joins_on gs ns t g (Err e) u h o = mapped_err (λ ms. ns ++ ms) o

pub read_calls : ReadCallsLaw
read_calls = record {
  both = λ fs gs s t u f g h ns r a b. read_on fs gs s f (joined ns r) u h (then_on a (joins_on gs ns t g r u h b));
  refused = λ fs gs s t f g e a. read_on fs gs s f (Err e) t g (first_refused a);
}

-- ---- looks between reads
later : (gs : List Field) (s t u : Standing (Option Stream)) (f g h : Health) (r : Result (List Number) DekuError)
    → t ≡ s → DeviceKept f g → Outcome (ReadsFields gs) t g r u h → Outcome (ReadsFields gs) s f r u h
later gs s t u f g h r e n (Quiet p q) = Quiet (subst (λ x. ReadsFields gs false x r u) e p) (no_fewer_on f g h n q)
later gs s t u f g h r e n (Broken a p q) = Broken a (subst (λ x. ReadsFields gs true x r u) e p) (more_on f g h n q)

pub look : LookLaw
look gs S c t u f g h at_end r a b = let d = meant a in later gs (Going (Some S) c) t u f g h r (d.0.1) (d.1) b

-- a look that returns leaves the same
same_behind : (S : Stream) (c : ℕ) (at_end : Bool) (t : Standing (Option Stream)) → Ending false (Going (Some S) c) (Ok at_end) t → t ≡ Going (Some S) c
same_behind S c at_end t p = p.1

-- and it is not refused
no_refusal : (S : Stream) (c : ℕ) (e : DekuError) (t : Standing (Option Stream)) → Ending false (Going (Some S) c) (Err e) t → ⊥
no_refusal S c e t (inl p, q) = let f = p.1 in absurd (cc)
no_refusal S c e t (inr p, q) = let f = p.1 in absurd (cc)

unlooked : {V : Type 0} (m : Meaning (Option Stream) V) (n : ℕ) (S : Stream) (c : ℕ) (r : Result V DekuError) (u : Standing (Option Stream))
    → Looking n m false (Going (Some S) c) r u → m false (Going (Some S) c) r u
unlooked m zero S c r u p = p
unlooked m (suc n) S c r u (Second at_end t p q) = unlooked m n S c r u (subst (λ x. Looking n m false x r u) (same_behind S c at_end t p) q)
unlooked m (suc n) S c r u (First e p q) = absurd (no_refusal S c e u p)

-- ---- what is known stays known
record Told (u : Standing (Option Stream)) : Type 0 where
  stream : Stream
  count : ℕ
  is : u ≡ Going (Some stream) count

field_told : (f : Field) (S : Stream) (c : ℕ) (n : Number) (u : Standing (Option Stream)) → ReadsField f false (Going (Some S) c) (Ok n) u → Told u
field_told f S c n u (Value v (Refused b p) e) = let g = p.2 in absurd (cc)
field_told f S c n u (Value v (Passed (k, Value bits (inl p) z)) e) = let g = p.1.2 in absurd (cc)
field_told f S c n u (Value v (Passed (k, Value bits (inr (l, inl p)) z)) e) = record { stream = _; count = _; is = p.2 }
field_told f S c n u (Value v (Passed (k, Value bits (inr (l, inr p)) z)) e) = let g = p.1 in absurd (cc)
field_told f S c n u (Value v (Passed (k, Refusal d p z)) e) = absurd (cc)
field_told f S c n u (Refusal d p e) = absurd (cc)

fields_told : (fs : List Field) (S : Stream) (c : ℕ) (ns : List Number) (u : Standing (Option Stream)) → ReadsFields fs false (Going (Some S) c) (Ok ns) u → Told u
fields_told [] S c ns u p = record { stream = S; count = c; is = (answer_is p).1 }
fields_told (f ∷ fs) S c ns u (Second n t p (Value ms q e)) =
    let k = field_told f S c n t p in
    fields_told fs k.stream k.count ms u (subst (λ x. ReadsFields fs false x (Ok ms) u) k.is q)
fields_told (f ∷ fs) S c ns u (Second n t p (Refusal d q e)) = absurd (cc)
fields_told (f ∷ fs) S c ns u (First d p e) = absurd (cc)

pub read_parts : ReadPartsLaw
read_parts [] S c r u p = p
read_parts (q ∷ parts) S c r u (Second ns t a b) =
    let first : ReadsFields q.1 false (Going (Some S) c) (Ok ns) t = unlooked (ReadsFields q.1) q.0 S c (Ok ns) t a in
    let k = fields_told q.1 S c ns t first in
    let others : Joins (flat_map (λ p. p.1) parts) ns false t r u =
    mapped_on false t r u (λ y m. subst (λ x. ReadsFields (flat_map (λ p. p.1) parts) false x y u) (sym (k.is))
    (read_parts parts k.stream k.count y u (subst (λ x. ReadsParts parts false x y u) k.is m))) b in
    (read_cut q.1 (flat_map (λ p. p.1) parts) false (Going (Some S) c) r u).1 (Second ns t first others)
read_parts (q ∷ parts) S c r u (First e a z) =
    (read_cut q.1 (flat_map (λ p. p.1) parts) false (Going (Some S) c) r u).1 (First e (unlooked (ReadsFields q.1) q.0 S c (Err e) u a) z)
