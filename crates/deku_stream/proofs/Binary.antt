-- Binary numbers of lists of bits: each list of n bits has its own number below 2 ^ n, and each such number has its list.
use Rattle.std.proofs.Common.{ℕ, zero, suc, ◌+◌, ◌*◌, ◌/◌, ◌%◌, ◌^◌, ◌<◌, ◌≡◌, Bool, true, false, cond, eqb, List, [], ◌∷◌, ◌++◌, length, refl, ap, sym, ◌∙◌, arith, one-add, mod-lt, length-append, mod-eq_of_lt}
use Rattle.std.proofs.lemmas.Nat.{pow-add, mod-pow-add}
use Rattle.std.proofs.lemmas.List.{length-reverse, reverse-reverse}
use native.Mathlib.Nat.{two-pow-succ, mod-one}
use Rattle.deku_stream.specs.declared.ctx.Order.{Order}
use Rattle.deku_stream.specs.declared.ctx.Order.TheVariants.{Msb0, Lsb0}
use Rattle.deku_stream.specs.Bits.{bin, bits_of, facing, group_number}

pub bin-lt : (s : List Bool) → bin s < 2 ^ length s
bin-lt [] = omega arith
bin-lt (true ∷ s) = omega (arith, bin-lt s, two-pow-succ (length s))
bin-lt (false ∷ s) = omega (arith, bin-lt s, two-pow-succ (length s))

pub bin-inj : (s t : List Bool) → length s ≡ length t → bin s ≡ bin t → s ≡ t
bin-inj [] [] l e = refl
bin-inj [] (b ∷ t) l e = absurd (omega arith)
bin-inj (a ∷ s) [] l e = absurd (omega arith)
bin-inj (true ∷ s) (true ∷ t) l e =
    let m : length s ≡ length t = omega arith in
    ap (λ x. true ∷ x) (bin-inj s t m (omega (arith, ap (λ n. 2 ^ n) m)))
bin-inj (true ∷ s) (false ∷ t) l e =
    let m : length s ≡ length t = omega arith in
    absurd (omega (arith, ap (λ n. 2 ^ n) m, bin-lt t))
bin-inj (false ∷ s) (true ∷ t) l e =
    let m : length s ≡ length t = omega arith in
    absurd (omega (arith, ap (λ n. 2 ^ n) m, bin-lt s))
bin-inj (false ∷ s) (false ∷ t) l e =
    let m : length s ≡ length t = omega arith in
    ap (λ x. false ∷ x) (bin-inj s t m (omega arith))

pub length-bits_of : (n v : ℕ) → length (bits_of n v) ≡ n
unfolding bits_of
length-bits_of zero v = refl
length-bits_of (suc n) v = ap suc (length-bits_of n v)

-- a bit's number
bit_is : (b : ℕ) → b < 2 → cond (eqb b 1) 1 0 ≡ b
bit_is zero h = refl
bit_is (suc zero) h = refl
bit_is (suc (suc n)) h = absurd (omega arith)

pub bin-bits_of : (n v : ℕ) → bin (bits_of n v) ≡ v % 2 ^ n
unfolding bits_of
bin-bits_of zero v = sym (mod-one v)
bin-bits_of (suc n) v =
    rw (bit_is (v / 2 ^ n % 2) (mod-lt (v / 2 ^ n) (omega arith)), length-bits_of n v, bin-bits_of n v, ← one-add n)
    (sym (mod-pow-add v 1 n))

pub bin-append : (s t : List Bool) → bin (s ++ t) ≡ bin s * 2 ^ length t + bin t
bin-append [] t = omega arith
bin-append (b ∷ s) t = rw (bin-append s t, length-append s t, pow-add 2 (length s) (length t)) (omega arith)

-- ---- as an order meets the bits
pub length-facing : (o : Order) (s : List Bool) → length (facing o s) ≡ length s
length-facing Msb0 s = refl
length-facing Lsb0 s = length-reverse s

pub facing-facing : (o : Order) (s : List Bool) → facing o (facing o s) ≡ s
facing-facing Msb0 s = refl
facing-facing Lsb0 s = reverse-reverse s

pub group_number-lt : (o : Order) (g : List Bool) → group_number o g < 2 ^ length g
group_number-lt o g = rw (← length-facing o g) (bin-lt (facing o g))

pub group_number-inj : (o : Order) (g h : List Bool) → length g ≡ length h → group_number o g ≡ group_number o h → g ≡ h
group_number-inj o g h l e =
    sym (facing-facing o g) ∙ ap (facing o) (bin-inj (facing o g) (facing o h) (length-facing o g ∙ l ∙ sym (length-facing o h)) e) ∙ facing-facing o h

-- the one group of n bits that has a number
pub group_of : Order → ℕ → ℕ → List Bool
group_of o n v = facing o (bits_of n v)

pub length-group_of : (o : Order) (n v : ℕ) → length (group_of o n v) ≡ n
unfolding group_of
length-group_of o n v = length-facing o (bits_of n v) ∙ length-bits_of n v

pub group_number-group_of : (o : Order) (n v : ℕ) → v < 2 ^ n → group_number o (group_of o n v) ≡ v
unfolding group_of
group_number-group_of o n v h = rw facing-facing (bin-bits_of n v ∙ mod-eq_of_lt h)
