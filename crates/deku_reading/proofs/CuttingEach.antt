-- Items that are cut from a word one after the other.
use Rattle.std.proofs.Common.{◌≡◌, ℕ, zero, suc, ◌+◌, ◌-◌, ◌/◌, ◌%◌, ◌*◌, ◌^◌, ◌<◌, ◌≤◌, false, List, [], ◌∷◌, ◌++◌, length, map, take, set, Option, Some, Result, Ok, Err, refl, sym, ap, ap₂, ◌∙◌, subst, arith, length-append, length-set}
use Rattle.std.proofs.lemmas.List.{take_more_set, take_all, map-append}
use Rattle.std.proofs.lemmas.Nat.{shr-shr}
use Rattle.deku_bits.specs.declared.ctx.Order.{Order}
use Rattle.deku_bits.specs.declared.ctx.Order.TheVariants.{Msb0, Lsb0}
use Rattle.deku_bits.specs.declared.error.DekuError.{DekuError}
use Rattle.deku_bits.specs.Standings.{Standing, Going}
use Rattle.deku_bits.specs.Streams.{Stream}
use Rattle.deku_bits.specs.Outcomes.{Meaning, Mapped, Value, Refusal}
use Rattle.deku_bits.specs.ReaderCalls.{TakesBits}
use Rattle.deku_bits.specs.Bits.{bits_of, facing}
use Rattle.deku_num.specs.Cutting.{front, behind}
use Rattle.deku_meanings.specs.Composing.{Answer, Answered, Then, Second, First, JoinedBy}
use Rattle.deku_reading.specs.Cutting.{IsReadOf, IsOfNumber, IsCutFrom}
use Rattle.deku_reading.specs.Lists.{ReadsTimes, Seen, on_value}
use Rattle.deku_reading.proofs.Cutting.{no_value, ok_same, answer_is, joined_cut}
use Rattle.deku_reading.proofs.OfBits.{mapped_cut}

-- ---- meanings that allow the same, where no device fails
pub record Alike {A V : Type 0} (m n : Meaning A V) : Type 0 where
  pub there : (s : Standing A) (r : Result V DekuError) (u : Standing A) → m false s r u → n false s r u
  pub back : (s : Standing A) (r : Result V DekuError) (u : Standing A) → n false s r u → m false s r u

pub alike_cut : {V : Type 0} {m n : Meaning (Option Stream) V} {o : Order} {word room : ℕ} {v : V} {b : ℕ} → Alike m n → IsCutFrom m o word room v b → IsCutFrom n o word room v b
alike_cut {V} {m} {n} {o} {word} {room} {v} {b} a is = record {
  some = is.some;
  within = is.within;
  number = λ k S c t small short took r u reads.
      let p = is.number k S c t small short took r u (a.back _ r u reads) in
      (p.0, p.1, p.2, λ s z cut x. a.there s (Ok p.0) z (p.3 s z cut x));
  reads = λ s u cut took. a.there s (Ok v) u (is.reads s u cut took);
}

-- one item
one_item : {A V : Type 0} {m : Meaning A V} → Alike (Mapped (λ v. v ∷ []) m) (ReadsTimes 1 m)
one_item {A} {V} {m} = record { there = there; back = back }
  where
    there : (s : Standing A) (r : Result (List V) DekuError) (u : Standing A) → Mapped (λ v. v ∷ []) m false s r u → ReadsTimes 1 m false s r u
    there s r u (Value v p e) = Second v u p (Value [] Answered e)
    there s r u (Refusal x p e) = First x p e

    back : (s : Standing A) (r : Result (List V) DekuError) (u : Standing A) → ReadsTimes 1 m false s r u → Mapped (λ v. v ∷ []) m false s r u
    back s r u (First x p e) = Refusal x p e
    back s r u (Second v t p (Refusal x q e)) = absurd (no_value (answer_is false t (Err x) u q).1)
    back s r u (Second v t p (Value vs q e)) =
        let is = answer_is false t (Ok vs) u q in
        Value v (rw is.2 p) (e ∙ ap (λ ws. Ok (v ∷ ws)) (ok_same is.1))

-- an item, and those after it
next_item : {A V : Type 0} {m : Meaning A V} {l : Meaning A (List V)} → Alike (JoinedBy (λ v vs. v ∷ vs) m l) (Then m (λ v. Mapped (λ vs. v ∷ vs) l))
next_item {A} {V} {m} {l} = record { there = there; back = back }
  where
    there : (s : Standing A) (r : Result (List V) DekuError) (u : Standing A) → JoinedBy (λ v vs. v ∷ vs) m l false s r u → Then m (λ v. Mapped (λ vs. v ∷ vs) l) false s r u
    there s r u (First x p e) = First x p e
    there s r u (Second v t p (First x q e)) = Second v t p (Refusal x q e)
    there s r u (Second v t p (Second vs z q a)) =
        let is = answer_is false z r u a in
        Second v t p (Value vs (rw is.2 q) is.1)

    back : (s : Standing A) (r : Result (List V) DekuError) (u : Standing A) → Then m (λ v. Mapped (λ vs. v ∷ vs) l) false s r u → JoinedBy (λ v vs. v ∷ vs) m l false s r u
    back s r u (First x p e) = First x p e
    back s r u (Second v t p (Refusal x q e)) = Second v t p (First x q e)
    back s r u (Second v t p (Value vs q e)) = Second v t p (Second vs u q (rw e Answered))

-- ---- the items that were cut
-- these items, one after the other; then the rest of the word has so many bits
abbrev pub CutEach : {V : Type 0} → Meaning (Option Stream) V → Order → ℕ → ℕ → List V → ℕ → ℕ → Type 0
CutEach m o word room [] rest left = (rest ≡ word) × (left ≡ room)
CutEach m o word room (v ∷ vs) rest left = (b : ℕ) × IsCutFrom m o word room v b × CutEach m o (behind o word b (room - b)) (room - b) vs rest left

module _ {V : Type 0} (m : Meaning (Option Stream) V) (o : Order) where
  -- and one more
  one_more : (vs : List V) (word room rest left : ℕ) (v : V) (b : ℕ) → CutEach m o word room vs rest left → IsCutFrom m o rest left v b
      → CutEach m o word room (vs ++ v ∷ []) (behind o rest b (left - b)) (left - b)
  one_more [] word room rest left v b p is = rw (p.0, p.1) (b, (rw (p.0, p.1) at is), (refl, refl))
  one_more (w ∷ vs) word room rest left v b p is = (p.0, p.1, one_more vs (behind o word p.0 (room - p.0)) (room - p.0) rest left v b p.2 is)

  -- all of them are one list
  each_cut : (v : V) (vs : List V) (word room rest left : ℕ) → CutEach m o word room (v ∷ vs) rest left → IsCutFrom (ReadsTimes (suc (length vs)) m) o word room (v ∷ vs) (room - left)
  each_cut v [] word room rest left p =
      let count : p.0 ≡ room - left = omega (arith, p.2.1, p.1.within) in
      subst (IsCutFrom (ReadsTimes 1 m) o word room (v ∷ [])) count (alike_cut one_item (mapped_cut m o p.0 (λ x. x ∷ []) word room v p.1))
  each_cut v (w ∷ ws) word room rest left p =
      let others = each_cut w ws (behind o word p.0 (room - p.0)) (room - p.0) rest left p.2 in
      let count : p.0 + (room - p.0 - left) ≡ room - left = omega (arith, p.1.within, others.some) in
      subst (IsCutFrom (ReadsTimes (suc (suc (length ws))) m) o word room (v ∷ w ∷ ws)) count (alike_cut next_item (joined_cut (λ x xs. x ∷ xs) o m (ReadsTimes (suc (length ws)) m) p.0 (room - p.0 - left) word room v (w ∷ ws) p.1 others))

  -- ---- the loop over the slots
  -- the first i slots hold the items that were cut, and the rest of the word is left
  pub record CutTo (word room i : ℕ) (slots : List (Option V)) (rest left : ℕ) : Type 0 where
    pub items : List V
    pub read : length items ≡ i
    pub held : take i slots ≡ map (λ v. Some v) items
    pub cut : CutEach m o word room items rest left

  pub none_cut : (word room : ℕ) (slots : List (Option V)) → CutTo word room 0 slots word room
  none_cut word room slots = record { items = []; read = refl; held = refl; cut = (refl, refl) }

  pub item_cut : (word room i : ℕ) (slots : List (Option V)) (rest left : ℕ) (v : V) (b : ℕ) → i < length slots → CutTo word room i slots rest left → IsCutFrom m o rest left v b
      → CutTo word room (i + 1) (set slots i (Some v)) (behind o rest b (left - b)) (left - b)
  item_cut word room i slots rest left v b inside k is = record {
    items = k.items ++ v ∷ [];
    read = length-append k.items (v ∷ []) ∙ ap (λ x. x + 1) k.read;
    held = take_more_set slots i (Some v) inside ∙ ap (λ x. x ++ Some v ∷ []) k.held ∙ sym (map-append (λ x. Some x) k.items (v ∷ []));
    cut = one_more k.items word room rest left v b k.cut is;
  }

  some_cut : (n : ℕ) (vs : List V) (word room rest left : ℕ) → length vs ≡ n → 0 < n → CutEach m o word room vs rest left → IsCutFrom (ReadsTimes n m) o word room vs (room - left)
  some_cut n [] word room rest left count some p = absurd (omega (arith, count, some))
  some_cut n (v ∷ vs) word room rest left count some p = subst (λ k. IsCutFrom (ReadsTimes k m) o word room (v ∷ vs) (room - left)) count (each_cut v vs word room rest left p)

  -- at the end
  pub all_cut : (n word room i : ℕ) (slots : List (Option V)) (rest left : ℕ) → i ≡ n → length slots ≡ n → 0 < n → CutTo word room i slots rest left
      → (vs : List V) × IsCutFrom (ReadsTimes n m) o word room vs (room - left) × (length vs ≡ n) × (slots ≡ map (λ v. Some v) vs)
  all_cut n word room i slots rest left last long some k =
      (k.items, some_cut n k.items word room rest left (k.read ∙ last) some k.cut, k.read ∙ last, sym (take_all i slots (omega (arith, long, last))) ∙ k.held)

-- the rest of the word as the code has it: a shift by all 64 bits is made in two
pub twice_shifted : (x word m : ℕ) → 0 < m → x ≡ word / 2 ^ (m - 1) / 2 ^ 1 → x ≡ word / 2 ^ m
twice_shifted x word m some is = let all : m - 1 + 1 ≡ m = omega (arith, some) in is ∙ shr-shr word (m - 1) 1 ∙ ap (λ i. word / 2 ^ i) all

-- ---- what is seen of a value
module _ {V W : Type 0} (h : V → W) (m : Meaning (Option Stream) W) (o : Order) where
  seen_read : (n k : ℕ) (v : V) (w : W) → w ≡ h v → IsReadOf m o n k w → IsReadOf (Seen h m) o n k v
  seen_read n k v w e read = λ s u cut took. subst (λ x. m false s (Ok x) u) e (read s u cut took)

  seen_number : (n : ℕ) → IsOfNumber m o n → IsOfNumber (Seen h m) o n
  seen_number n is = λ k S c t small short took r u reads. seen k S c t small short took r u reads
    where
      seen : (k : ℕ) (S : Stream) (c : ℕ) (t : Standing (Option Stream)) → k < 2 ^ n → length S.window < 8 → TakesBits o n false (Going (Some S) c) (Ok (facing o (bits_of n k))) t
          → (r : Result V DekuError) (u : Standing (Option Stream)) → Seen h m false (Going (Some S) c) r u → (v : V) × (r ≡ Ok v) × (u ≡ t) × IsReadOf (Seen h m) o n k v
      seen k S c t small short took (Err e) u q = absurd (no_value (is k S c t small short took (Err e) u q).1)
      seen k S c t small short took (Ok v) u q =
          let p = is k S c t small short took (Ok (h v)) u q in
          (v, refl, p.2, seen_read n k v p.0 (sym (ok_same p.1)) p.3)

  pub seen_cut : {word room : ℕ} {v : V} {w : W} {b : ℕ} → w ≡ h v → IsCutFrom m o word room w b → IsCutFrom (Seen h m) o word room v b
  seen_cut {word} {room} {v} {w} {b} e is =
      record { some = is.some; within = is.within; number = seen_number b is.number; reads = seen_read b (front o word b (room - b)) v w e is.reads }
