-- A long word after held bits, seven bytes of it at a time.
use Rattle.std.proofs.Common.{◌≡◌, ℕ, zero, suc, ◌+◌, ◌*◌, ◌-◌, ◌/◌, ◌%◌, ◌^◌, ◌<◌, ◌≤◌, Bool, List, [], ◌∷◌, ◌++◌, length, take, arith, refl, sym, ap, ap₂, ◌∙◌, append_assoc, append-nil, length-append}
use Rattle.std.proofs.lemmas.Nat.{shr-shr, shr_below, pow-add}
use Rattle.deku_stream.specs.declared.ctx.Order.{Order}
use Rattle.deku_stream.specs.declared.ctx.Order.TheVariants.{Msb0, Lsb0}
use Rattle.deku_stream.specs.Bits.{bits_of, facing}
use Rattle.deku_stream.specs.Streams.{flow}
use Rattle.deku_writer.specs.Pushing.{low_bytes, word_bits, Fills}
use Rattle.deku_stream.proofs.Binary.{length-facing}
use Rattle.deku_stream.proofs.Cuts.{flow-append, length-flow, length-remainder}
use Rattle.deku_writer.proofs.Fills.{Fills-trans}
use Rattle.deku_writer.proofs.Joined.{low_bytes-split, whole_word}
use Rattle.deku_writer.proofs.WordsWritten.{laid_front, length-low_bytes}

-- what is above does not matter
low_bytes-below : (k r q : ℕ) → low_bytes k (r + q * 2 ^ (8 * k)) ≡ low_bytes k r
low_bytes-below zero r q = refl
low_bytes-below (suc k) r q =
    let n : 8 * suc k ≡ 8 + 8 * k = omega arith in
    let more : 2 ^ (8 * suc k) ≡ 256 * 2 ^ (8 * k) = ap (λ i. 2 ^ i) n ∙ pow-add 2 8 (8 * k) in
    let e : r + q * 2 ^ (8 * suc k) ≡ r + 256 * (q * 2 ^ (8 * k)) = rw more (omega arith) in
    let low : (r + 256 * (q * 2 ^ (8 * k))) % 256 ≡ r % 256 = omega arith in
    let high : (r + 256 * (q * 2 ^ (8 * k))) / 256 ≡ r / 256 + q * 2 ^ (8 * k) = omega arith in
    ap (low_bytes (suc k)) e ∙ ap₂ (λ x y. x ∷ low_bytes k y) low high ∙ ap (λ l. r % 256 ∷ l) (low_bytes-below k (r / 256) q)

low_seven : (w : ℕ) → low_bytes 7 (w % 2 ^ 56) ≡ low_bytes 7 w
low_seven w =
    let e : w ≡ w % 2 ^ 56 + w / 2 ^ 56 * 2 ^ (8 * 7) = omega arith in
    sym (ap (low_bytes 7) e ∙ low_bytes-below 7 (w % 2 ^ 56) (w / 2 ^ 56))

facing_none : (o : Order) → facing o [] ≡ []
facing_none Msb0 = refl
facing_none Lsb0 = refl

-- seven bytes of a word
seven_bits : (o : Order) (w : ℕ) → word_bits o 56 (w % 2 ^ 56) ≡ flow o (low_bytes 7 w)
seven_bits o w =
    whole_word o 56 (w % 2 ^ 56) refl
    ∙ ap₂ (λ x y. flow o x ++ y) (low_seven w) (facing_none o)
    ∙ append-nil (flow o (low_bytes 7 w))

-- seven bytes more
pub seven_more : (o : Order) (h hs hs2 : List Bool) (out ys zs : List ℕ) (i w rest : ℕ) → 7 * i ≤ length out → length ys ≡ 7 → rest ≡ w / 2 ^ (56 * i)
    → Fills o h hs (flow o (low_bytes (7 * i) w)) (take (7 * i) out) → Fills o hs hs2 (word_bits o 56 (rest % 2 ^ 56)) ys
    → Fills o h hs2 (flow o (low_bytes (7 * (i + 1)) w)) (take (7 * (i + 1)) (take (7 * i) out ++ (ys ++ zs)))
seven_more o h hs hs2 out ys zs i w rest l long e p q =
    let n : 7 * (i + 1) ≡ 7 * i + 7 = omega arith in
    let m : 8 * (7 * i) ≡ 56 * i = omega arith in
    let front : take (7 * (i + 1)) (take (7 * i) out ++ (ys ++ zs)) ≡ take (7 * i) out ++ ys = laid_front out ys zs (7 * i) (7 * (i + 1)) l (omega (arith, long)) in
    let last : w / 2 ^ (8 * (7 * i)) ≡ rest = ap (λ k. w / 2 ^ k) m ∙ sym e in
    let bits : flow o (low_bytes (7 * (i + 1)) w) ≡ flow o (low_bytes (7 * i) w) ++ word_bits o 56 (rest % 2 ^ 56) =
    ap (λ k. flow o (low_bytes k w)) n ∙ ap (flow o) (low_bytes-split (7 * i) 7 w) ∙ flow-append o (low_bytes (7 * i) w) (low_bytes 7 (w / 2 ^ (8 * (7 * i))))
    ∙ ap (λ x. flow o (low_bytes (7 * i) w) ++ x) (ap (λ v. flow o (low_bytes 7 v)) last ∙ sym (seven_bits o rest)) in
    rw (front, bits) (Fills-trans o h hs hs2 (flow o (low_bytes (7 * i) w)) (word_bits o 56 (rest % 2 ^ 56)) (take (7 * i) out) ys p q)

pub rest_seven : (w rest i : ℕ) → rest ≡ w / 2 ^ (56 * i) → rest / 2 ^ 56 ≡ w / 2 ^ (56 * (i + 1))
rest_seven w rest i e =
    let n : 56 * i + 56 ≡ 56 * (i + 1) = omega arith in
    ap (λ x. x / 2 ^ 56) e ∙ shr-shr w (56 * i) 56 ∙ ap (λ m. w / 2 ^ m) n

-- what is left of a word
module _ (o : Order) (n w p rest : ℕ) (inside : w < 2 ^ n) (few : 56 * p ≤ n) (is : rest ≡ w / 2 ^ (56 * p)) where
  pub rest_below : rest < 2 ^ (n - 56 * p)
  rest_below = let e : n - 56 * p + 56 * p ≡ n = omega (arith, few) in rw is (shr_below w (n - 56 * p) (56 * p) (rw e inside))

  word_parts : word_bits o n w ≡ flow o (low_bytes (7 * p) w) ++ word_bits o (n - 56 * p) rest
  unfolding word_bits
  word_parts =
      let m : ℕ = (n - 56 * p) / 8 in
      let q : n / 8 ≡ 7 * p + (n - 56 * p) / 8 = omega (arith, few) in
      let r : n % 8 ≡ (n - 56 * p) % 8 = omega (arith, few) in
      let k : 8 * (7 * p) ≡ 56 * p = omega arith in
      let s : 56 * p + 8 * ((n - 56 * p) / 8) ≡ 8 * (n / 8) = omega (arith, few) in
      let behind : w / 2 ^ (8 * (7 * p)) ≡ rest = ap (λ i. w / 2 ^ i) k ∙ sym is in
      let above : w / 2 ^ (8 * (n / 8)) ≡ rest / 2 ^ (8 * ((n - 56 * p) / 8)) =
      ap (λ i. w / 2 ^ i) (sym s) ∙ sym (shr-shr w (56 * p) (8 * m)) ∙ ap (λ x. x / 2 ^ (8 * m)) (sym is) in
      let front : flow o (low_bytes (n / 8) w) ≡ flow o (low_bytes (7 * p) w) ++ flow o (low_bytes m rest) =
      ap (λ i. flow o (low_bytes i w)) q ∙ ap (flow o) (low_bytes-split (7 * p) m w) ∙ flow-append o (low_bytes (7 * p) w) (low_bytes m (w / 2 ^ (8 * (7 * p))))
      ∙ ap (λ v. flow o (low_bytes (7 * p) w) ++ flow o (low_bytes m v)) behind in
      ap₂ (λ x y. x ++ y) front (ap₂ (λ i x. facing o (bits_of i x)) r above)
      ∙ append_assoc (flow o (low_bytes (7 * p) w)) (flow o (low_bytes m rest)) (facing o (bits_of ((n - 56 * p) % 8) (rest / 2 ^ (8 * m))))

  -- after the bytes so far
  pub word_ended : (h hs hs2 : List Bool) (out ys zs : List ℕ) (count : ℕ) → 7 * p ≤ length out → length ys ≡ count
      → Fills o h hs (flow o (low_bytes (7 * p) w)) (take (7 * p) out) → Fills o hs hs2 (word_bits o (n - 56 * p) rest) ys
      → Fills o h hs2 (word_bits o n w) (take (7 * p + count) (take (7 * p) out ++ (ys ++ zs)))
  word_ended h hs hs2 out ys zs count l long a b =
      let front : take (7 * p + count) (take (7 * p) out ++ (ys ++ zs)) ≡ take (7 * p) out ++ ys = laid_front out ys zs (7 * p) (7 * p + count) l (omega (arith, long)) in
      rw (front, word_parts) (Fills-trans o h hs hs2 (flow o (low_bytes (7 * p) w)) (word_bits o (n - 56 * p) rest) (take (7 * p) out) ys a b)

-- how many bytes fill, over all parts
pub parts_count : (o : Order) (h hs : List Bool) (n p w count : ℕ) (out : List ℕ) → length h < 8 → 56 * p ≤ n → Fills o h hs (flow o (low_bytes (7 * p) w)) out
    → count ≡ (length hs + (n - 56 * p)) / 8 → 7 * p + count ≡ (length h + n) / 8
parts_count o h hs n p w count out less few f is =
    let xs : List Bool = flow o (low_bytes (7 * p) w) in
    let long : length xs ≡ 8 * (7 * p) = length-flow o (low_bytes (7 * p) w) ∙ ap (λ k. 8 * k) (length-low_bytes (7 * p) w) in
    let left : length hs ≡ (length h + length xs) % 8 =
    sym (length-facing o hs) ∙ ap length f.rest ∙ length-remainder (facing o h ++ xs) ∙ ap (λ k. k % 8) (length-append (facing o h) xs ∙ ap (λ k. k + length xs) (length-facing o h)) in
    omega (arith, less, few, long, left, is)
