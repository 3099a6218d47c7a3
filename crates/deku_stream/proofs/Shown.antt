-- What a read shows, turned back: `shown` keeps the length and is its own inverse.
use Rattle.std.proofs.Common.{ℕ, ◌+◌, ◌%◌, ◌<◌, ◌≤◌, ◌≡◌, List, [], ◌∷◌, ◌++◌, Bool, length, take, drop, reverse, flat_map, refl, sym, ap, ap₂, ◌∙◌, ⊎_elim, arith, append_assoc, append-nil, length-append, eq-eqb, ne_eqb}
use Rattle.std.proofs.lemmas.List.{length-reverse, reverse-reverse, length-take, length-drop, take_at, drop_at}
use Rattle.std.proofs.lemmas.Bool.{cases_eq}
use Rattle.deku_stream.specs.declared.ctx.Order.{Order}
use Rattle.deku_stream.specs.declared.ctx.Order.TheVariants.{Msb0, Lsb0}
use Rattle.deku_stream.specs.Bits.{chunks, shown}
use Rattle.deku_stream.proofs.Groups.{chunks-full, chunks-short, by_groups}
use Rattle.deku_device.proofs.Parts.{cut_part}

-- whole bytes, reversed byte by byte
abbrev pub turned : List Bool → List Bool
turned s = flat_map reverse (chunks s)

pub turned-full : (g t : List Bool) → length g ≡ 8 → turned (g ++ t) ≡ reverse g ++ turned t
turned-full g t l = rw (chunks-full g t l) refl

pub turned-short : (s : List Bool) → length s < 8 → turned s ≡ reverse s
turned-short [] l = refl
turned-short (b ∷ s) l = rw (chunks-short (b ∷ s) (omega arith) l) (append-nil (reverse (b ∷ s)))

pub length-turned : (s : List Bool) → length (turned s) ≡ length s
length-turned s = by_groups (λ s. length (turned s) ≡ length s) (ap length (turned-short [] (omega arith)))
    (λ s p l. rw (turned-short s l) (length-reverse s))
    (λ g t l h. rw (turned-full g t l, length-append (reverse g) (turned t), length-reverse g, length-append g t, h) refl)
    s

turned-turned : (s : List Bool) → turned (turned s) ≡ s
turned-turned s = by_groups (λ s. turned (turned s) ≡ s) (ap turned (turned-short [] (omega arith)) ∙ turned-short [] (omega arith))
    (λ s p l. rw (turned-short s l) (turned-short (reverse s) (omega (arith, length-reverse s)) ∙ reverse-reverse s))
    (λ g t l h. rw (turned-full g t l) (turned-full (reverse g) (turned t) (length-reverse g ∙ l) ∙ ap₂ (λ x y. x ++ y) (reverse-reverse g) h))
    s

pub shown_even : (s : List Bool) → length s % 8 ≡ 0 → shown Lsb0 s ≡ turned s
unfolding shown
shown_even s h = rw (eq-eqb (length s % 8) 0 h) refl

pub shown_odd : (s : List Bool) → (length s % 8 ≡ 0 → ⊥) → shown Lsb0 s ≡ reverse s
unfolding shown
shown_odd s h = rw (ne_eqb (length s % 8) 0 h) refl

pub length-shown : (o : Order) (s : List Bool) → length (shown o s) ≡ length s
unfolding shown
length-shown Msb0 s = refl
length-shown Lsb0 s = ⊎_elim
    (λ (e : length s % 8 ≡ 0). rw (shown_even s e) (length-turned s))
    (λ (e : length s % 8 ≡ 0 → ⊥). rw (shown_odd s e) (length-reverse s))
    (cases_eq (length s % 8) 0)

pub shown-shown : (o : Order) (s : List Bool) → shown o (shown o s) ≡ s
unfolding shown
shown-shown Msb0 s = refl
shown-shown Lsb0 s = ⊎_elim
    (λ (e : length s % 8 ≡ 0). rw (shown_even s e) (shown_even (turned s) (rw (length-turned s) e) ∙ turned-turned s))
    (λ (e : length s % 8 ≡ 0 → ⊥). rw (shown_odd s e) (shown_odd (reverse s) (rw (length-reverse s) e) ∙ reverse-reverse s))
    (cases_eq (length s % 8) 0)

-- ---- what a read shows, part by part
-- `Msb0` is shown as it is
pub shown_high : (s : List Bool) → shown Msb0 s ≡ s
unfolding shown
shown_high s = refl

-- whole bytes are shown byte by byte
pub shown_whole : (s : List Bool) → length s % 8 ≡ 0 → shown Lsb0 s ≡ flat_map reverse (chunks s)
unfolding shown
shown_whole s h = shown_even s h

-- other lists are reversed
pub shown_other : (s : List Bool) → (length s % 8 ≡ 0 → ⊥) → shown Lsb0 s ≡ reverse s
shown_other s h = shown_odd s h

-- one byte more is turned
pub turned_more : (bits : List Bool) (at : ℕ) → at + 8 ≤ length bits
    → (let new = take at bits ++ (reverse (take 8 (drop at bits)) ++ drop (at + 8) bits) in
    take (at + 8) new ++ flat_map reverse (chunks (drop (at + 8) new)) ≡ take at bits ++ flat_map reverse (chunks (drop at bits)))
turned_more bits at fits =
    let a : List Bool = take at bits in
    let g : List Bool = take 8 (drop at bits) in
    let m : List Bool = reverse g in
    let z : List Bool = drop (at + 8) bits in
    let la : length a ≡ at = simp length-take (omega arith) in
    let lg : length g ≡ 8 = simp (length-take, length-drop) (omega arith) in
    let front : length (a ++ m) ≡ at + 8 = omega (arith, length-append a m, length-reverse g) in
    let re : a ++ (m ++ z) ≡ (a ++ m) ++ z = sym (append_assoc a m z) in
    let left : take (at + 8) (a ++ (m ++ z)) ≡ a ++ m = ap (take (at + 8)) re ∙ take_at (a ++ m) z (at + 8) front in
    let right : drop (at + 8) (a ++ (m ++ z)) ≡ z = ap (drop (at + 8)) re ∙ drop_at (a ++ m) z (at + 8) front in
    let here : drop at bits ≡ g ++ z = cut_part bits at 8 in
    ap₂ (λ x y. x ++ flat_map reverse (chunks y)) left right
    ∙ append_assoc a m (flat_map reverse (chunks z))
    ∙ ap (λ x. a ++ x) (sym (ap (λ x. flat_map reverse x) (ap chunks here ∙ chunks-full g z lg)))
