-- The bit at a place of a byte, and of bytes.
use Rattle.std.proofs.Common.{ℕ, zero, suc, ◌+◌, ◌*◌, ◌-◌, ◌/◌, ◌%◌, ◌^◌, ◌<◌, ◌≤◌, ◌≡◌, Bool, true, false, not, eqb, List, [], ◌∷◌, ◌++◌, length, set, get_or, refl, ap, sym, ◌∙◌, arith, length-append}
use Rattle.std.proofs.Math.Bool.{beq}
use Rattle.std.proofs.lemmas.List.{length-set}
use Rattle.deku_stream.specs.declared.ctx.Order.TheVariants.{Msb0}
use Rattle.deku_stream.specs.Bits.{bin, bits_of, byte_bits, bits_in}
use Rattle.deku_stream.proofs.Binary.{bin-lt}
use Rattle.deku_stream.proofs.Cuts.{byte-of, bits_of-group}

-- the places of a byte
pub by_place : (P : ℕ → Type 0) → P 0 → P 1 → P 2 → P 3 → P 4 → P 5 → P 6 → P 7 → (n : ℕ) → n < 8 → P n
by_place P a b c d e f g h zero l = a
by_place P a b c d e f g h (suc zero) l = b
by_place P a b c d e f g h (suc (suc zero)) l = c
by_place P a b c d e f g h (suc (suc (suc zero))) l = d
by_place P a b c d e f g h (suc (suc (suc (suc zero)))) l = e
by_place P a b c d e f g h (suc (suc (suc (suc (suc zero))))) l = f
by_place P a b c d e f g h (suc (suc (suc (suc (suc (suc zero)))))) l = g
by_place P a b c d e f g h (suc (suc (suc (suc (suc (suc (suc zero))))))) l = h
by_place P a b c d e f g h (suc (suc (suc (suc (suc (suc (suc (suc n)))))))) l = absurd (omega arith)

-- what the bit at each place counts
abbrev pub weights : List ℕ
weights = 128 ∷ 64 ∷ 32 ∷ 16 ∷ 8 ∷ 4 ∷ 2 ∷ 1 ∷ []

pub bit_is : (b p : ℕ) → p < 8 → eqb (b / get_or weights p 0 % 2) 1 ≡ get_or (byte_bits b) p false
unfolding bits_of byte_bits
bit_is b = by_place (λ p. eqb (b / get_or weights p 0 % 2) 1 ≡ get_or (byte_bits b) p false) refl refl refl refl refl refl refl refl

weight-pow : (p : ℕ) → p < 8 → get_or weights p 0 ≡ 2 ^ (7 - p)
weight-pow = by_place (λ p. get_or weights p 0 ≡ 2 ^ (7 - p)) refl refl refl refl refl refl refl refl

-- a bit that is set counts its weight
bin-set_true : (s : List Bool) (p : ℕ) → p < length s → get_or s p false ≡ false → bin (set s p true) ≡ bin s + 2 ^ (length s - 1 - p)
bin-set_true [] p l e = absurd (omega arith)
bin-set_true (true ∷ s) zero l e = absurd (cc)
bin-set_true (false ∷ s) zero l e =
    let n : length s ≡ suc (length s) - 1 - 0 = omega arith in
    rw (← n) (omega arith)
bin-set_true (b ∷ s) (suc p) l e =
    let n : suc (length s) - 1 - suc p ≡ length s - 1 - p = omega arith in
    rw (n, bin-set_true s p (omega arith) e, length-set s p true) (omega arith)

-- and one that is cleared counts it no more
bin-set_false : (s : List Bool) (p : ℕ) → p < length s → get_or s p false ≡ true → bin (set s p false) + 2 ^ (length s - 1 - p) ≡ bin s
bin-set_false [] p l e = absurd (omega arith)
bin-set_false (false ∷ s) zero l e = absurd (cc)
bin-set_false (true ∷ s) zero l e =
    let n : length s ≡ suc (length s) - 1 - 0 = omega arith in
    rw (← n) (omega arith)
bin-set_false (b ∷ s) (suc p) l e =
    let n : suc (length s) - 1 - suc p ≡ length s - 1 - p = omega arith in
    rw (n, length-set s p false) (omega (arith, bin-set_false s p (omega arith) e))

eight : (b : ℕ) → length (byte_bits b) ≡ 8
unfolding bits_of byte_bits
eight b = refl

-- a byte with a bit set: its number, and its bits
pub record Replaces (b w p : ℕ) (x : Bool) (c : ℕ) : Type 0 where
  pub bits : byte_bits c ≡ set (byte_bits b) p x
  pub fits : c < 256

pub set_bit : (b p : ℕ) → b < 256 → p < 8 → get_or (byte_bits b) p false ≡ false → Replaces b (get_or weights p 0) p true (b + get_or weights p 0)
set_bit b p h l e =
    let s : List Bool = set (byte_bits b) p true in
    let n : length s ≡ 8 = length-set (byte_bits b) p true ∙ eight b in
    let c : bin s ≡ b + get_or weights p 0 =
    bin-set_true (byte_bits b) p (omega (arith, eight b)) e
    ∙ ap (λ k. bin (byte_bits b) + 2 ^ (k - 1 - p)) (eight b)
    ∙ ap (λ x. x + 2 ^ (7 - p)) (byte-of Msb0 b h)
    ∙ ap (λ x. b + x) (sym (weight-pow p l)) in
    record {
      bits = ap byte_bits (sym c) ∙ bits_of-group Msb0 s n;
      fits = rw (← c) (omega (arith, bin-lt s, ap (λ k. 2 ^ k) n));
    }

pub clear_bit : (b p : ℕ) → b < 256 → p < 8 → get_or (byte_bits b) p false ≡ true
    → (get_or weights p 0 ≤ b) × Replaces b (get_or weights p 0) p false (b - get_or weights p 0)
clear_bit b p h l e =
    let s : List Bool = set (byte_bits b) p false in
    let n : length s ≡ 8 = length-set (byte_bits b) p false ∙ eight b in
    let c : bin s + get_or weights p 0 ≡ b =
    ap (λ x. bin s + x) (weight-pow p l ∙ ap (λ k. 2 ^ (k - 1 - p)) (sym (eight b)))
    ∙ bin-set_false (byte_bits b) p (omega (arith, eight b)) e
    ∙ byte-of Msb0 b h in
    let d : bin s ≡ b - get_or weights p 0 = omega arith in (
      omega arith,
      record {
        bits = ap byte_bits (sym d) ∙ bits_of-group Msb0 s n;
        fits = omega arith;
      },
    )

-- ---- bytes
pub length-bits_in : (bs : List ℕ) → length (bits_in bs) ≡ 8 * length bs
length-bits_in [] = refl
length-bits_in (b ∷ bs) = length-append (byte_bits b) (bits_in bs) ∙ omega (arith, eight b, length-bits_in bs)

-- a place after eight bits
behind_eight : (k p : ℕ) → 8 * suc k + p ≡ suc (suc (suc (suc (suc (suc (suc (suc (8 * k + p))))))))
behind_eight k p = omega arith

pub bits_in-get : (bs : List ℕ) (k p : ℕ) → k < length bs → p < 8 → get_or (bits_in bs) (8 * k + p) false ≡ get_or (byte_bits (get_or bs k 0)) p false
unfolding bits_of byte_bits
bits_in-get [] k p l h = absurd (omega arith)
bits_in-get (b ∷ bs) zero p l h = by_place (λ p. get_or (bits_in (b ∷ bs)) (8 * 0 + p) false ≡ get_or (byte_bits b) p false) refl refl refl refl refl refl refl refl p h
bits_in-get (b ∷ bs) (suc k) p l h = rw (behind_eight k p) (bits_in-get bs k p (omega arith) h)

set_front : (b p : ℕ) (x : Bool) (rest : List Bool) → p < 8 → set (byte_bits b ++ rest) p x ≡ set (byte_bits b) p x ++ rest
unfolding bits_of byte_bits
set_front b p x rest = by_place (λ p. set (byte_bits b ++ rest) p x ≡ set (byte_bits b) p x ++ rest) refl refl refl refl refl refl refl refl p

set_late : (b : ℕ) (rest : List Bool) (k p : ℕ) (x : Bool) → set (byte_bits b ++ rest) (8 * suc k + p) x ≡ byte_bits b ++ set rest (8 * k + p) x
unfolding bits_of byte_bits
set_late b rest k p x = rw (behind_eight k p) refl

pub bits_in-set : (bs : List ℕ) (k p c : ℕ) (x : Bool) → k < length bs → p < 8 → byte_bits c ≡ set (byte_bits (get_or bs k 0)) p x
    → bits_in (set bs k c) ≡ set (bits_in bs) (8 * k + p) x
bits_in-set [] k p c x l h e = absurd (omega arith)
bits_in-set (b ∷ bs) zero p c x l h e =
    let n : 8 * 0 + p ≡ p = omega arith in
    rw n (ap (λ s. s ++ bits_in bs) e ∙ sym (set_front b p x (bits_in bs) h))
bits_in-set (b ∷ bs) (suc k) p c x l h e =
    ap (λ s. byte_bits b ++ s) (bits_in-set bs k p c x (omega arith) h e) ∙ sym (set_late b (bits_in bs) k p x)

-- ---- two bits
pub same_bit : (a b : Bool) → beq a b ≡ true → a ≡ b
same_bit true true e = refl
same_bit false false e = refl
same_bit true false e = cc
same_bit false true e = cc

pub other_bit : (a b : Bool) → beq a b ≡ false → a ≡ not b
other_bit true true e = cc
other_bit false false e = cc
other_bit true false e = refl
other_bit false true e = refl
