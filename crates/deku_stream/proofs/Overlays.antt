-- Bits laid over others, one at a time.
use Rattle.std.proofs.Common.{ℕ, zero, suc, ◌+◌, ◌-◌, ◌<◌, ◌≤◌, ◌≡◌, Bool, false, List, [], ◌∷◌, ◌++◌, length, set, get_or, drop, take, refl, ap, sym, ◌∙◌, arith, append_assoc, length-append}
use Rattle.std.proofs.lemmas.List.{length-take-le, take_more, drop_more, drop_at, take_at, get_or-append-add, get_or-drop}
use Rattle.deku_device.specs.Overlays.{overlaid}

-- a list, with the element after a front replaced
set_behind : (s t : List Bool) (a b : Bool) (n : ℕ) → length s ≡ n → set (s ++ a ∷ t) n b ≡ s ++ b ∷ t
set_behind [] t a b zero l = refl
set_behind [] t a b (suc n) l = absurd (omega arith)
set_behind (c ∷ s) t a b zero l = absurd (omega arith)
set_behind (c ∷ s) t a b (suc n) l = ap (λ u. c ∷ u) (set_behind s t a b n (omega arith))

-- one bit more
pub overlaid-more : (s : List Bool) (at : ℕ) (bits : List Bool) (k : ℕ) → k < length bits → at + k < length s
    → set (overlaid s at (take k bits)) (at + k) (get_or bits k false) ≡ overlaid s at (take (k + 1) bits)
overlaid-more s at bits k l h =
    let front : List Bool = take at s ++ take k bits in
    let lk : length (take k bits) ≡ k = length-take-le k bits (omega arith) in
    let lf : length front ≡ at + k = length-append (take at s) (take k bits) ∙ omega (arith, lk, length-take-le at s (omega arith)) in
    let lm : length (take (k + 1) bits) ≡ k + 1 = length-take-le (k + 1) bits (omega arith) in
    let next : at + (k + 1) ≡ at + k + 1 = omega arith in
    ap (λ x. set (front ++ drop (at + x) s) (at + k) (get_or bits k false)) lk
    ∙ ap (λ x. set (front ++ x) (at + k) (get_or bits k false)) (drop_more s (at + k) false h)
    ∙ set_behind front (drop (at + k + 1) s) (get_or s (at + k) false) (get_or bits k false) (at + k) lf
    ∙ sym (append_assoc front (get_or bits k false ∷ []) (drop (at + k + 1) s))
    ∙ ap (λ x. x ++ drop (at + k + 1) s) (append_assoc (take at s) (take k bits) (get_or bits k false ∷ []))
    ∙ ap (λ x. take at s ++ x ++ drop (at + k + 1) s) (sym (take_more bits k false l))
    ∙ ap (λ x. take at s ++ take (k + 1) bits ++ drop x s) (sym (ap (λ x. at + x) lm ∙ next))

-- the bits in front of the end of what was laid, and those after it
pub take-overlaid : (s : List Bool) (at : ℕ) (bits : List Bool) → at + length bits ≤ length s → take (at + length bits) (overlaid s at bits) ≡ take at s ++ bits
take-overlaid s at bits h =
    let front : List Bool = take at s ++ bits in
    let lf : length front ≡ at + length bits = length-append (take at s) bits ∙ omega (arith, length-take-le at s (omega arith)) in
    take_at front (drop (at + length bits) s) (at + length bits) lf

pub drop-overlaid : (s : List Bool) (at : ℕ) (bits : List Bool) → at + length bits ≤ length s → drop (at + length bits) (overlaid s at bits) ≡ drop (at + length bits) s
drop-overlaid s at bits h =
    let front : List Bool = take at s ++ bits in
    let lf : length front ≡ at + length bits = length-append (take at s) bits ∙ omega (arith, length-take-le at s (omega arith)) in
    drop_at front (drop (at + length bits) s) (at + length bits) lf

pub take_front-overlaid : (s : List Bool) (at : ℕ) (bits : List Bool) → at ≤ length s → take at (overlaid s at bits) ≡ take at s
take_front-overlaid s at bits h =
    ap (take at) (append_assoc (take at s) bits (drop (at + length bits) s)) ∙ take_at (take at s) (bits ++ drop (at + length bits) s) at (length-take-le at s h)

-- a turn of a loop that lays bits, one at a place
pub lays_more : (s : List Bool) (at : ℕ) (bits : List Bool) (k place : ℕ) (old new : List Bool) (bit : Bool) → old ≡ overlaid s at (take k bits)
    → new ≡ set old place bit → place ≡ at + k → bit ≡ get_or bits k false → k < length bits → at + k < length s → new ≡ overlaid s at (take (k + 1) bits)
lays_more s at bits k place old new bit e f p b l h = f ∙ rw (e, p, b) (overlaid-more s at bits k l h)

-- a bit after those that were laid
pub get_or-overlaid : (s : List Bool) (at : ℕ) (bits : List Bool) (k : ℕ) → at + length bits ≤ k → k < length s → get_or (overlaid s at bits) k false ≡ get_or s k false
get_or-overlaid s at bits k h l =
    let front : List Bool = take at s ++ bits in
    let lf : length front ≡ at + length bits = length-append (take at s) bits ∙ omega (arith, length-take-le at s (omega arith)) in
    let m : ℕ = k - length front in
    let e : k ≡ length front + m = omega arith in
    let f : at + length bits + m ≡ k = omega arith in
    ap (λ x. get_or (front ++ drop (at + length bits) s) x false) e
    ∙ get_or-append-add front (drop (at + length bits) s) m false
    ∙ get_or-drop (at + length bits) s m false
    ∙ ap (λ x. get_or s x false) f
