-- Each place of the bytes that aligned widths fill is that of a bit, or of padding.
use Rattle.std.proofs.Common.{ℕ, zero, suc, ◌+◌, ◌*◌, ◌-◌, ◌/◌, ◌%◌, ◌<◌, ◌≤◌, ◌≡◌, ◌⊎◌, List, [], ◌∷◌, take, Some, refl, ap, sym, ◌∙◌, subst, inl, inr, ⊎_elim, arith}
use Rattle.std.specs.List.{slice_get}
use Rattle.std.proofs.lemmas.Bool.{cases_lt}
use Rattle.deku_bits.specs.declared.ctx.Order.{Order}
use Rattle.deku_bits.specs.declared.ctx.Order.TheVariants.{Msb0, Lsb0}
use Rattle.deku_bits.specs.Pieces.{Aligned, AlignedFrom, total, last_order}
use Rattle.deku_fields.specs.Places.{printed_at}

-- a place is where its own bit is met
pub printed_twice : (o : Order) (k : ℕ) → printed_at o (printed_at o k) ≡ k
printed_twice Msb0 k = refl
printed_twice Lsb0 k = omega arith

-- a bit of one of the widths is met at k, where n bits are met before them
pub record IsMet (fs : List (Order × ℕ)) (n k : ℕ) : Type 0 where
  pub index : ℕ
  pub bit : ℕ
  pub width : Order × ℕ
  pub there : slice_get fs index ≡ Some width
  pub below : bit < width.1
  pub stands : k ≡ printed_at width.0 (n + (total (take index fs) + bit))

met_later : (f : Order × ℕ) (fs : List (Order × ℕ)) (n k : ℕ) → IsMet fs (n + f.1) k → IsMet (f ∷ fs) n k
met_later f fs n k m =
    let u : ℕ = total (take m.index fs) in
    let same : n + f.1 + (u + m.bit) ≡ n + (f.1 + u + m.bit) = omega arith in
    record { index = suc m.index; bit = m.bit; width = m.width; there = m.there; below = m.below; stands = m.stands ∙ ap (printed_at m.width.0) same }

-- met before n, met at a bit, or after all of them
abbrev Meeting : List (Order × ℕ) → ℕ → Order → ℕ → Type 0
Meeting fs n o k = (printed_at o k < n) ⊎ IsMet fs n k ⊎ (n + total fs ≤ printed_at (last_order o fs) k)

meeting_later : (f : Order × ℕ) (fs : List (Order × ℕ)) (n : ℕ) (o p : Order) (k : ℕ) → last_order o (f ∷ fs) ≡ last_order p fs → n + f.1 ≤ printed_at p k
    → Meeting fs (n + f.1) p k → Meeting (f ∷ fs) n o k
meeting_later f fs n o p k e l (inl x) = absurd (omega arith)
meeting_later f fs n o p k e l (inr (inl m)) = inr (inl (met_later f fs n k m))
meeting_later f fs n o p k e l (inr (inr x)) =
    let y : n + (f.1 + total fs) ≤ printed_at (last_order p fs) k = omega arith in
    inr (inr (subst (λ q. n + (f.1 + total fs) ≤ printed_at q k) (sym e) y))

-- a place and its bit are in one byte
same_byte : (o : Order) (k : ℕ) → printed_at o k / 8 ≡ k / 8
same_byte Msb0 k = refl
same_byte Lsb0 k = omega arith

abbrev MeetsFrom : List (Order × ℕ) → Type 0
MeetsFrom fs = (n : ℕ) (o : Order) (k : ℕ) → AlignedFrom n o fs → 8 * (n / 8) ≤ k → Meeting fs n o k

meeting_on : (q : Order) (w : ℕ) (fs : List (Order × ℕ)) → MeetsFrom fs → MeetsFrom ((q, w) ∷ fs)
meeting_on q zero fs ih n o k h l = same (ih n o k h l)
  where
    same : Meeting fs n o k → Meeting ((q, zero) ∷ fs) n o k
    same (inl x) = inl x
    same (inr (inl m)) = let e : n ≡ n + zero = omega arith in inr (inl (met_later (q, zero) fs n k (subst (λ x. IsMet fs x k) e m)))
    same (inr (inr x)) = inr (inr (omega arith))
meeting_on q (suc w) fs ih n o k h l = ⊎_elim before (λ (x : n ≤ printed_at q k). ⊎_elim (here x) later (cases_lt (printed_at q k) (n + suc w))) (cases_lt (printed_at q k) n)
  where
    before : printed_at q k < n → Meeting ((q, suc w) ∷ fs) n o k
    before x = ⊎_elim (λ (z : n % 8 ≡ 0). absurd (omega (arith, same_byte q k))) (λ (e : q ≡ o). inl (subst (λ p. printed_at p k < n) e x)) h.0

    here : n ≤ printed_at q k → printed_at q k < n + suc w → Meeting ((q, suc w) ∷ fs) n o k
    here x y =
        let e : printed_at q k ≡ n + (0 + (printed_at q k - n)) = omega arith in
        inr (inl (record { index = 0; bit = printed_at q k - n; width = (q, suc w); there = refl; below = omega arith; stands = sym (printed_twice q k) ∙ ap (printed_at q) e }))

    later : n + suc w ≤ printed_at q k → Meeting ((q, suc w) ∷ fs) n o k
    later x = meeting_later (q, suc w) fs n o q k refl x (ih (n + suc w) q k h.1 (omega (arith, same_byte q k)))

meeting : (fs : List (Order × ℕ)) → MeetsFrom fs
meeting [] n o k h l = ⊎_elim (λ (x : printed_at o k < n). inl x) (λ (x : n ≤ printed_at o k). inr (inr (omega arith))) (cases_lt (printed_at o k) n)
meeting (f ∷ fs) n o k h l = meeting_on f.0 f.1 fs (meeting fs) n o k h l

pub met_or_padding : (fs : List (Order × ℕ)) → Aligned fs → (k : ℕ) → IsMet fs 0 k ⊎ (total fs ≤ printed_at (last_order Msb0 fs) k)
met_or_padding fs h k = after (meeting fs 0 Msb0 k h (omega arith))
  where
    after : Meeting fs 0 Msb0 k → IsMet fs 0 k ⊎ (total fs ≤ printed_at (last_order Msb0 fs) k)
    after (inl x) = absurd (omega arith)
    after (inr (inl m)) = inl m
    after (inr (inr x)) = inr (omega arith)
