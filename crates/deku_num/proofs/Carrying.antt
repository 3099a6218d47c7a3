-- What a transfer of a field's bits says of its number.
use Rattle.std.proofs.Common.{◌≡◌, ℕ, ◌%◌, ◌^◌, ◌<◌, Bool, true, false, List, length, Option, Result, Ok, Err, ℤ, pos, sym, ◌∙◌, ap, ap₂, subst}
use Rattle.deku_bits.specs.declared.ctx.Order.{Order}
use Rattle.deku_bits.specs.declared.error.DekuError.{DekuError}
use Rattle.deku_bits.specs.Bits.{bits_of, word_of}
use Rattle.deku_bits.specs.declared.ctx.Order.TheVariants.{Msb0}
use Rattle.deku_bits.specs.Streams.{Stream}
use Rattle.deku_bits.specs.Devices.{Health}
use Rattle.deku_bits.specs.Standings.{Standing, Output}
use Rattle.deku_bits.specs.Outcomes.{Outcome, Quiet, Broken, Mapped, Value, Refusal}
use Rattle.deku_bits.specs.ReaderCalls.{TakesBits, ReadsWord}
use Rattle.deku_bits.proofs.ReaderLaws.{taken_length}
use Rattle.deku_bits.specs.WriterCalls.{WritesWord}
use Rattle.deku_bits.proofs.Handing.{no_ok, broken_at, mapped_ok, mapped_err, weaker}
use Rattle.deku_bits.proofs.Packed.{bin-whole}
use Rattle.deku_num.specs.declared.ctx.Endian.TheVariants.{Big}
use Rattle.deku_num.specs.declared.ctx.Layout.{Layout}
use Rattle.deku_num.specs.NumberLaws.{InType}
use Rattle.deku_num.specs.Numbers.{NumberType, width, number, value, with_sign, IsAllowed, IsWordFor}
use Rattle.deku_num.specs.NumberCalls.{Passed, ReadsNumber, WritesNumber}
use Rattle.deku_num.proofs.Ranges.{type_law, signed_below}
use Rattle.deku_num.proofs.Turned.{word_below}

-- the bits whose word was read
pub record WordRead (o : Order) (n k : ℕ) (s : Standing (Option Stream)) (f : Health) (u : Standing (Option Stream)) (g : Health) : Type 0 where
  pub bits : List Bool
  pub long : length bits ≡ n
  pub worth : k ≡ word_of o bits
  pub taken : Outcome (TakesBits o n) s f (Ok bits) u g

pub word_read : (o : Order) (n : ℕ) {k : ℕ} {s : Standing (Option Stream)} {f : Health} {u : Standing (Option Stream)} {g : Health} → Outcome (ReadsWord o n) s f (Ok k) u g → WordRead o n k s f u g
word_read o n {k} {s} {f} {u} {g} (Quiet (Value v p e) q) = record {
  bits = v;
  long = taken_length o n false s v u p;
  worth = cc;
  taken = Quiet p q;
}
word_read o n (Quiet (Refusal d p e) q) = absurd (cc)
word_read o n (Broken a p q) = absurd (no_ok a)

-- a refusal of a word is one of its bits
pub word_refused : (o : Order) (n : ℕ) {e : DekuError} {s : Standing (Option Stream)} {f : Health} {u : Standing (Option Stream)} {g : Health} → Outcome (ReadsWord o n) s f (Err e) u g → Outcome (TakesBits o n) s f (Err e) u g
word_refused o n {e} {s} {f} {u} {g} (Quiet (Refusal d p x) q) = let same : e ≡ d = cc in Quiet (subst (λ y. TakesBits o n false s (Err y) u) (sym same) p) q
word_refused o n (Quiet (Value v p x) q) = absurd (cc)
word_refused o n {e} {s} {f} {u} {g} (Broken a (Refusal d p x) q) = let same : e ≡ d = cc in Broken (broken_at a) (subst (λ y. TakesBits o n true s (Err y) u) (sym same) p) q
word_refused o n (Broken a (Value v p x) q) = absurd (cc)

-- the bits of a field were taken
pub number_read : (t : NumberType) (l : Layout) (n : ℕ) {s : Standing (Option Stream)} {f : Health} {bits : List Bool} {u : Standing (Option Stream)} {g : Health}
    → IsAllowed t l → Outcome (TakesBits l.order n) s f (Ok bits) u g → n ≡ width t l → Outcome (ReadsNumber t l) s f (Ok (value t l bits)) u g
number_read t l n {s} {f} {bits} {u} {g} ok o w =
    weaker (Mapped (value t l) (TakesBits l.order (width t l))) (ReadsNumber t l) s f (Ok (value t l bits)) u g (λ b m. Passed (ok, m))
    (mapped_ok (value t l) (subst (λ k. Outcome (TakesBits l.order k) s f (Ok bits) u g) w o))

-- they were refused
pub number_refused : (t : NumberType) (l : Layout) (n : ℕ) {s : Standing (Option Stream)} {f : Health} {e : DekuError} {u : Standing (Option Stream)} {g : Health}
    → IsAllowed t l → Outcome (TakesBits l.order n) s f (Err e) u g → n ≡ width t l → Outcome (ReadsNumber t l) s f (Err e) u g
number_refused t l n {s} {f} {e} {u} {g} ok o w =
    weaker (Mapped (value t l) (TakesBits l.order (width t l))) (ReadsNumber t l) s f (Err e) u g (λ b m. Passed (ok, m))
    (mapped_err (value t l) (subst (λ k. Outcome (TakesBits l.order k) s f (Err e) u g) w o))

-- the word of a value was written
pub word_written : (t : NumberType) (l : Layout) (v : ℤ) (n w : ℕ) {s : Standing Output} {f : Health} {r : Result (Unit {0}) DekuError} {u : Standing Output} {g : Health}
    → IsAllowed t l → n ≡ width t l → IsWordFor t l v w → Outcome (WritesWord l.order n w) s f r u g → Outcome (WritesNumber t l v) s f r u g
word_written t l v n w {s} {f} {r} {u} {g} ok wide word o =
    weaker (WritesWord l.order n w) (WritesNumber t l v) s f r u g
    (λ b m. Passed (Passed (ok, (m.0, word.list m.0 (m.1 ∙ wide) m.2, m.3)))) o

-- ---- what is read is of the type
pub signed_in_type : (t : NumberType) (l : Layout) (s : List Bool) (v : ℤ) → t.signed ≡ true → IsAllowed t l → length s ≡ width t l → v ≡ value t l s → t.bits % 8 ≡ 0 → InType true t.bits v
signed_in_type t l s v g ok w e d = subst (λ x. InType true t.bits x) (sym e) (subst (λ b. InType b t.bits (value t l s)) g (type_law t l d ok s w))

pub unsigned_in_type : (t : NumberType) (l : Layout) (s : List Bool) (v : ℕ) → t.signed ≡ false → IsAllowed t l → length s ≡ width t l → pos v ≡ value t l s → t.bits % 8 ≡ 0 → v < 2 ^ t.bits
unsigned_in_type t l s v g ok w e d =
    let r = subst (λ x. InType false t.bits x) (sym e) (subst (λ b. InType b t.bits (value t l s)) g (type_law t l d ok s w)) in
    let same : v ≡ r.0 = cc (r.1) in
    rw same r.2

-- ---- words of fields
-- the number of bits from the highest down is that of a big field
pub high_number : (n k : ℕ) → k < 2 ^ n → k ≡ number Big Msb0 (bits_of n k)
unfolding number
high_number n k h = sym (bin-whole n k h)

-- in a layout that is so
pub high_in : (l : Layout) (n k : ℕ) → l.endian ≡ Big → l.order ≡ Msb0 → k < 2 ^ n → k ≡ number l.endian l.order (bits_of n k)
high_in l n k big high small = rw (big, high) (high_number n k small)

-- a word that was read fits its bits
pub word_fits : {o : Order} {n k : ℕ} {s : Standing (Option Stream)} {f : Health} {u : Standing (Option Stream)} {g : Health} → WordRead o n k s f u g → k < 2 ^ n
word_fits {o} r = rw (r.worth, ← r.long) (word_below o (r.bits))

-- the number of an unsigned field is what it is worth
pub unsigned_worth : (t : NumberType) (l : Layout) (s : List Bool) (k : ℕ) → t.signed ≡ false → k ≡ number l.endian l.order s → pos k ≡ value t l s
unfolding value
unsigned_worth t l s k g e = ap pos e ∙ sym (ap (λ b. with_sign b (length s) (number l.endian l.order s)) g)

-- the number of a signed field fits its bits
pub number_fits : (t : NumberType) (l : Layout) (s : List Bool) (n k : ℕ) → t.signed ≡ true → IsAllowed t l → length s ≡ n → n ≡ width t l → k ≡ number l.endian l.order s → k < 2 ^ n
number_fits t l s n k g ok e w q = rw (q, ← e) (signed_below t l s ok (e ∙ w) g)

-- and in two's complement it is worth what its bits are
pub signed_worth : (t : NumberType) (l : Layout) (s : List Bool) (n k : ℕ) → t.signed ≡ true → length s ≡ n → k ≡ number l.endian l.order s → with_sign true n k ≡ value t l s
unfolding value
signed_worth t l s n k g e q = ap₂ (λ x y. with_sign true x y) (sym e) q ∙ sym (ap (λ b. with_sign b (length s) (number l.endian l.order s)) g)
