-- Values that are made of their bits.
use Rattle.std.proofs.Common.{◌≡◌, ℕ, zero, suc, ◌+◌, ◌-◌, ◌^◌, ◌<◌, ◌≤◌, nat_eq, ℤ, Bool, false, Bor, pos, List, length, Option, Some, Result, Ok, Err, refl, sym, ap, ◌∙◌, subst, inl, inr, arith}
use Rattle.deku_bits.specs.declared.ctx.Order.{Order}
use Rattle.deku_bits.specs.declared.error.DekuError.{DekuError}
use Rattle.deku_bits.specs.Bits.{bits_of, facing}
use Rattle.deku_bits.specs.Standings.{Standing, Going}
use Rattle.deku_bits.specs.Streams.{Stream}
use Rattle.deku_bits.specs.Outcomes.{Meaning, Mapped, Value, Refusal}
use Rattle.deku_bits.specs.ReaderCalls.{TakesBits}
use Rattle.deku_num.specs.declared.ctx.Layout.{Layout}
use Rattle.deku_num.specs.declared.kind.NumberType.{NumberType}
use Rattle.deku_num.specs.Numbers.{byte, width, number, value, IsAllowed}
use Rattle.deku_num.specs.NumberCalls.{IsLayoutRefusal, ReadsNumber, ReadsUnsigned, integers, Refused, Passed}
use Rattle.deku_num.specs.Cutting.{front, IsCutValue}
use Rattle.deku_num.proofs.Carrying.{unsigned_worth}
use Rattle.deku_num.proofs.FromBits.{group_is}
use Rattle.deku_meanings.specs.Composing.{Then, Second, First}
use Rattle.deku_meanings.specs.Shapes.{Shows, Shown, ShowsUnless, numeral}
use Rattle.deku_reading.specs.Cutting.{IsReadOf, IsOfNumber, IsCutFrom}
use Rattle.deku_reading.proofs.Cutting.{ok_same, no_value, one_taken, not_ended, front_below}

-- ---- numbers
not_refused : {refusal : Bor (List ℕ) → DekuError} {text : List ℕ} {t : NumberType} {l : Layout} {e : DekuError} → IsAllowed t l → IsLayoutRefusal refusal text t l e → ⊥
not_refused ok (inl p) = omega (arith, ok.within, p.0)
not_refused ok (inr p) = p.1 ok.even

of_integers : (k : ℕ) (r : Result ℕ DekuError) → integers r ≡ Ok (pos k) → r ≡ Ok k
of_integers k (Ok n) e = cc
of_integers k (Err x) e = absurd (cc)

module _ {t : NumberType} {l : Layout} {o : Order} {n : ℕ} (wide : n ≡ width t l) (order : l.order ≡ o) (ok : IsAllowed t l) where
  -- the bits of the field, in its order
  in_order : (s : Standing (Option Stream)) (bits : List Bool) (u : Standing (Option Stream)) → TakesBits o n false s (Ok bits) u → TakesBits l.order (width t l) false s (Ok bits) u
  in_order s bits u took = subst (λ m. TakesBits l.order m false s (Ok bits) u) wide (subst (λ p. TakesBits p n false s (Ok bits) u) (sym order) took)

  pub number_read : (k : ℕ) (v : ℤ) → v ≡ value t l (facing o (bits_of n k)) → IsReadOf (ReadsNumber t l) o n k v
  number_read k v is = λ s u cut took. Passed (ok, Value (facing o (bits_of n k)) (in_order s (facing o (bits_of n k)) u took) (ap (λ x. Ok x) is))

  -- from a known stream it is the value of its bits
  number_is : (k : ℕ) (S : Stream) (c : ℕ) (z : Standing (Option Stream)) → TakesBits o n false (Going (Some S) c) (Ok (facing o (bits_of n k))) z
      → (r : Result ℤ DekuError) (u : Standing (Option Stream)) → ReadsNumber t l false (Going (Some S) c) r u → (r ≡ Ok (value t l (facing o (bits_of n k)))) × (u ≡ z)
  number_is k S c z took r u (Refused e p) = absurd (not_refused ok p.1)
  number_is k S c z took r u (Passed p) = is p.1
    where
      bits : List Bool
      bits = facing o (bits_of n k)

      is : Mapped (value t l) (TakesBits l.order (width t l)) false (Going (Some S) c) r u → (r ≡ Ok (value t l bits)) × (u ≡ z)
      is (Refusal e q x) = absurd (not_ended l.order (width t l) c S bits e z u (in_order (Going (Some S) c) bits z took) q)
      is (Value xs q x) =
          let same = one_taken l.order (width t l) c S bits xs z u (in_order (Going (Some S) c) bits z took) q in
          (x ∙ ap (λ y. Ok (value t l y)) same.0, same.1)

  pub signed_number : IsOfNumber (ReadsNumber t l) o n
  signed_number = λ k S c z small short took r u reads.
      let is = number_is k S c z took r u reads in
      (value t l (facing o (bits_of n k)), is.0, is.1, number_read k _ refl)

  module _ (plain : t.signed ≡ false) where
    -- an unsigned number is the number of the bits
    unsigned_is : (k : ℕ) (S : Stream) (c : ℕ) (z : Standing (Option Stream)) → TakesBits o n false (Going (Some S) c) (Ok (facing o (bits_of n k))) z
        → (r : Result ℕ DekuError) (u : Standing (Option Stream)) → ReadsUnsigned t l false (Going (Some S) c) r u
        → (v : ℕ) × (r ≡ Ok v) × (u ≡ z) × (pos v ≡ value t l (facing o (bits_of n k)))
    unsigned_is k S c z took r u reads =
        let bits : List Bool = facing o (bits_of n k) in
        let is = number_is k S c z took (integers r) u reads in
        let worth : pos (number l.endian l.order bits) ≡ value t l bits = unsigned_worth t l bits (number l.endian l.order bits) plain refl in
        (number l.endian l.order bits, of_integers (number l.endian l.order bits) r (is.0 ∙ ap (λ x. Ok x) (sym worth)), is.1, worth)

    pub unsigned_number : IsOfNumber (ReadsUnsigned t l) o n
    unsigned_number = λ k S c z small short took r u reads.
        let is = unsigned_is k S c z took r u reads in
        (is.0, is.1, is.2, number_read k (pos is.0) is.3)

-- from the front of a word
pub signed_cut : {t : NumberType} {l : Layout} {o : Order} {word room : ℕ} {v w : ℤ} {n : ℕ} → IsCutValue t l o word room v n → w ≡ v → IsCutFrom (ReadsNumber t l) o word room w n
signed_cut {t} {l} {o} {word} {room} {v} {w} {n} is same = record {
  some = is.some;
  within = is.within;
  number = signed_number is.wide is.order is.ok;
  reads = number_read is.wide is.order is.ok (front o word n (room - n)) w (same ∙ is.worth);
}

pub unsigned_cut : {t : NumberType} {l : Layout} {o : Order} {word room v n : ℕ} → t.signed ≡ false → IsCutValue t l o word room (pos v) n → IsCutFrom (ReadsUnsigned t l) o word room v n
unsigned_cut {t} {l} {o} {word} {room} {v} {n} plain is = record {
  some = is.some;
  within = is.within;
  number = unsigned_number is.wide is.order is.ok plain;
  reads = number_read is.wide is.order is.ok (front o word n (room - n)) (pos v) is.worth;
}

-- ---- values that show as such a number
shows_is : {A V W : Type 0} {h : W → V} {v : V} (b : Bool) (s : Standing A) (r : Result W DekuError) (u : Standing A) → Shows h v b s r u → (w : W) × (r ≡ Ok w) × (u ≡ s) × (h w ≡ v)
shows_is b s r u (Shown {w} e) = (w, refl, refl, e)

module _ {V W : Type 0} (m : Meaning (Option Stream) V) (o : Order) (n : ℕ) where
  pub shown_read : (h : W → V) (k : ℕ) (v : V) (w : W) → h w ≡ v → IsReadOf m o n k v → IsReadOf (Then m (Shows h)) o n k w
  shown_read h k v w e read = λ s u cut took. Second v u (read s u cut took) (Shown e)

  pub shown_number : (h : W → V) → IsOfNumber m o n → IsOfNumber (Then m (Shows h)) o n
  shown_number h is = λ k S c t small short took r u reads. shown k S c t small short took r u reads
    where
      shown : (k : ℕ) (S : Stream) (c : ℕ) (t : Standing (Option Stream)) → k < 2 ^ n → length S.window < 8 → TakesBits o n false (Going (Some S) c) (Ok (facing o (bits_of n k))) t
          → (r : Result W DekuError) (u : Standing (Option Stream)) → Then m (Shows h) false (Going (Some S) c) r u → (w : W) × (r ≡ Ok w) × (u ≡ t) × IsReadOf (Then m (Shows h)) o n k w
      shown k S c t small short took r u (First e q x) = absurd (no_value (is k S c t small short took (Err e) u q).1)
      shown k S c t small short took r u (Second v y q x) =
          let p = is k S c t small short took (Ok v) y q in
          let seen = shows_is false y r u x in
          (seen.0, seen.1, seen.2 ∙ p.2, shown_read h k p.0 seen.0 (seen.3 ∙ ok_same p.1) p.3)

  pub shown_cut : (h : W → V) (word room : ℕ) (v : V) (w : W) → h w ≡ v → IsCutFrom m o word room v n → IsCutFrom (Then m (Shows h)) o word room w n
  shown_cut h word room v w e is = record { some = is.some; within = is.within; number = shown_number h is.number; reads = shown_read h (front o word n (room - n)) v w e is.reads }

  -- a value with h on it
  pub mapped_read : (h : V → W) (k : ℕ) (v : V) → IsReadOf m o n k v → IsReadOf (Mapped h m) o n k (h v)
  mapped_read h k v read = λ s u cut took. Value v (read s u cut took) refl

  pub mapped_number : (h : V → W) → IsOfNumber m o n → IsOfNumber (Mapped h m) o n
  mapped_number h is = λ k S c t small short took r u reads. mapped k S c t small short took r u reads
    where
      mapped : (k : ℕ) (S : Stream) (c : ℕ) (t : Standing (Option Stream)) → k < 2 ^ n → length S.window < 8 → TakesBits o n false (Going (Some S) c) (Ok (facing o (bits_of n k))) t
          → (r : Result W DekuError) (u : Standing (Option Stream)) → Mapped h m false (Going (Some S) c) r u → (w : W) × (r ≡ Ok w) × (u ≡ t) × IsReadOf (Mapped h m) o n k w
      mapped k S c t small short took r u (Refusal e q x) = absurd (no_value (is k S c t small short took (Err e) u q).1)
      mapped k S c t small short took r u (Value v q x) =
          let p = is k S c t small short took (Ok v) u q in
          (h v, x, p.2, mapped_read h k v (subst (IsReadOf m o n k) (sym (ok_same p.1)) p.3))

  pub mapped_cut : (h : V → W) (word room : ℕ) (v : V) → IsCutFrom m o word room v n → IsCutFrom (Mapped h m) o word room (h v) n
  mapped_cut h word room v is = record { some = is.some; within = is.within; number = mapped_number h is.number; reads = mapped_read h (front o word n (room - n)) v is.reads }

-- ---- a truth value of one bit
pub truth_of : (n : ℕ) → n < 2 → numeral (nat_eq n 1) ≡ n
truth_of zero small = refl
truth_of (suc zero) small = refl
truth_of (suc (suc n)) small = absurd (omega (arith, small))

module _ {l : Layout} (text : List ℕ) {o : Order} (wide : 1 ≡ width byte l) (order : l.order ≡ o) (ok : IsAllowed byte l) where
  -- one bit is its own number
  bit_is : (k : ℕ) → k < 2 ^ 1 → pos k ≡ value byte l (facing o (bits_of 1 k))
  bit_is k small = unsigned_worth byte l (facing o (bits_of 1 k)) k refl (subst (λ p. k ≡ number l.endian p (facing o (bits_of 1 k))) (sym order) (group_is l.endian o 1 k (omega arith) small))

  pub truth_read : (k : ℕ) (w : Bool) → k < 2 ^ 1 → numeral w ≡ k → IsReadOf (Then (ReadsUnsigned byte l) (ShowsUnless (λ n. 1 < n) text numeral)) o 1 k w
  truth_read k w small e = λ s u cut took. Second k u (number_read wide order ok k (pos k) (bit_is k small) s u cut took) (Passed (Shown e))

  pub truth_number : IsOfNumber (Then (ReadsUnsigned byte l) (ShowsUnless (λ n. 1 < n) text numeral)) o 1
  truth_number = λ k S c t small short took r u reads. truth k S c t small took r u reads
    where
      same : (k v : ℕ) → pos v ≡ value byte l (facing o (bits_of 1 k)) → k < 2 ^ 1 → v ≡ k
      same k v is small = let e : pos v ≡ pos k = is ∙ sym (bit_is k small) in cc

      truth : (k : ℕ) (S : Stream) (c : ℕ) (t : Standing (Option Stream)) → k < 2 ^ 1 → TakesBits o 1 false (Going (Some S) c) (Ok (facing o (bits_of 1 k))) t
          → (r : Result Bool DekuError) (u : Standing (Option Stream)) → Then (ReadsUnsigned byte l) (ShowsUnless (λ n. 1 < n) text numeral) false (Going (Some S) c) r u
          → (w : Bool) × (r ≡ Ok w) × (u ≡ t) × IsReadOf (Then (ReadsUnsigned byte l) (ShowsUnless (λ n. 1 < n) text numeral)) o 1 k w
      truth k S c t small took r u (First e q x) = absurd (no_value (unsigned_is wide order ok refl k S c t took (Err e) u q).1)
      truth k S c t small took r u (Second v y q (Refused e p)) =
          let is = unsigned_is wide order ok refl k S c t took (Ok v) y q in
          absurd (omega (arith, p.0, ok_same is.1, same k is.0 is.3 small, small))
      truth k S c t small took r u (Second v y q (Passed x)) =
          let is = unsigned_is wide order ok refl k S c t took (Ok v) y q in
          let seen = shows_is false y r u x in
          (seen.0, seen.1, seen.2 ∙ is.2, truth_read k seen.0 small (seen.3 ∙ ok_same is.1 ∙ same k is.0 is.3 small))

pub truth_cut : {l : Layout} (text : List ℕ) {o : Order} {word room v : ℕ} → IsCutValue byte l o word room (pos v) 1 → word < 2 ^ room
    → IsCutFrom (Then (ReadsUnsigned byte l) (ShowsUnless (λ n. 1 < n) text numeral)) o word room (nat_eq v 1) 1
truth_cut {l} text {o} {word} {room} {v} is below =
    let k : ℕ = front o word 1 (room - 1) in
    let all : room ≡ 1 + (room - 1) = omega (arith, is.within) in
    let small : k < 2 ^ 1 = front_below o word 1 (room - 1) (subst (λ i. word < 2 ^ i) all below) in
    let worth : pos v ≡ pos k = is.worth ∙ sym (bit_is text is.wide is.order is.ok k small) in
    let same : v ≡ k = cc in
    record {
      some = is.some;
      within = is.within;
      number = truth_number text is.wide is.order is.ok;
      reads = truth_read text is.wide is.order is.ok k (nat_eq v 1) small (truth_of v (omega (arith, same, small)) ∙ same);
    }
