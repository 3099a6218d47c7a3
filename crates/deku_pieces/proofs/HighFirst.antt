-- Pieces that all are `Msb0`: their order never changes, and how many bits they have; and that values which fit have such pieces.
use Rattle.std.proofs.Common.{◌≡◌, ℕ, suc, ◌+◌, ◌*◌, ◌<◌, ◌≤◌, ◌^◌, Bool, List, [], ◌∷◌, ◌++◌, length, map, All, ℤ, pos, refl, ap, sym, ◌∙◌, subst, inr, arith}
use Rattle.std.specs.Prelude.{⊤}
use Rattle.std.proofs.lemmas.List.Elements.{All-head, All-tail}
use Rattle.deku_bits.specs.declared.ctx.Order.{Order}
use Rattle.deku_bits.specs.declared.ctx.Order.TheVariants.{Msb0}
use Rattle.deku_bits.specs.Pieces.{Piece, piece, shape, AlignedFrom}
use Rattle.deku_num.specs.declared.kind.NumberType.{NumberType}
use Rattle.deku_num.specs.declared.ctx.Layout.{Layout}
use Rattle.deku_num.specs.declared.ctx.Size.{Size}
use Rattle.deku_num.specs.declared.ctx.Size.TheVariants.{Whole}
use Rattle.deku_num.specs.Numbers.{byte, unsigned, width, IsAllowed}
use Rattle.deku_num.specs.NumberLaws.{InRange}
use Rattle.deku_num.proofs.Values.{field_law}
use Rattle.deku_pieces.specs.Symmetric.{breadth}
use Rattle.deku_pieces.specs.Pieces.{OfNumber, OfUnsigned, OfEach, InTurn, high_first}
use Rattle.deku_pieces.specs.Packs.{InStep}
use Rattle.deku_pieces.proofs.Turns.{breadth-append}

-- ---- their order never changes
abbrev High : List Piece → Type 0
High [] = ⊤
High (p ∷ ps) = (p.order ≡ Msb0) × High ps

next_aligned : (n : ℕ) (o : Order) (bits : List Bool) (fs : List (Order × ℕ)) → o ≡ Msb0 → ((k : ℕ) → AlignedFrom k Msb0 fs) → AlignedFrom n Msb0 ((o, length bits) ∷ fs)
next_aligned n o [] fs e others = others n
next_aligned n o (b ∷ bits) fs e others = (inr e, subst (λ q. AlignedFrom (n + suc (length bits)) q fs) (sym e) (others (n + suc (length bits))))

high_aligned : (ps : List Piece) (n : ℕ) → High ps → AlignedFrom n Msb0 (map shape ps)
high_aligned [] n h = tt
high_aligned (p ∷ ps) n (e, h) = next_aligned n p.order p.bits (map shape ps) e (λ k. high_aligned ps k h)

high_together : (ps qs : List Piece) → High ps → High qs → High (ps ++ qs)
high_together [] qs h k = k
high_together (p ∷ ps) qs (e, h) k = (e, high_together ps qs h k)

-- ---- so many bits
-- pieces that are `Msb0`, of n bits
pub record Lying (ps : List Piece) (n : ℕ) : Type 0 where
  high : High ps
  pub wide : breadth ps ≡ n

pub in_step : {ps : List Piece} {n : ℕ} → Lying ps n → InStep ps
in_step {ps} l = high_aligned ps 0 l.high

-- what has pieces has such, of n bits
abbrev pub Lies : (List Piece → Type 0) → ℕ → Type 0
Lies pieces n = (ps : List Piece) → pieces ps → Lying ps n

pub number_lies : (t : NumberType) (size : Size) (v : ℕ) → Lies (OfUnsigned t (high_first size) v) (width t (high_first size))
number_lies t size v ps (ok, (bits, f, e)) =
    let w : length bits ≡ width t (high_first size) = f.wide in
    record { high = subst High (sym e) (refl, tt); wide = ap breadth e ∙ omega (arith, w) }

pub turns_lie : {P Q : List Piece → Type 0} {m n : ℕ} → Lies P m → Lies Q n → Lies (InTurn P Q) (m + n)
turns_lie {P} {Q} {m} {n} f g ps (a, b, p, q, e) =
    let x = f a p in
    let y = g b q in
    let i : breadth a ≡ m = x.wide in
    let j : breadth b ≡ n = y.wide in
    record { high = subst High (sym e) (high_together a b x.high y.high); wide = ap breadth e ∙ omega (arith, breadth-append a b, i, j) }

pub bytes_lie : (vs : List ℕ) → Lies (OfEach (OfUnsigned byte (high_first Whole)) vs) (8 * length vs)
bytes_lie [] ps e = record { high = subst High (sym e) tt; wide = ap breadth e ∙ omega arith }
bytes_lie (v ∷ vs) ps h =
    let l = turns_lie (number_lies byte Whole v) (bytes_lie vs) ps h in
    let w : breadth ps ≡ 8 + 8 * length vs = l.wide in
    record { high = l.high; wide = omega (arith, w) }

-- a byte that has pieces is below 256
pub byte_small : (n : ℕ) (ps : List Piece) → OfUnsigned byte (high_first Whole) n ps → n < 2 ^ 8
byte_small n ps (ok, (bits, f, e)) =
    let k = (field_law byte (high_first Whole) ok (pos n)).0.0 (bits, f) in
    let same : pos n ≡ pos k.0 = k.1 in
    let is : n ≡ k.0 = cc in
    omega (arith, is, k.2)

-- ---- that there are pieces
abbrev pub Has : (List Piece → Type 0) → Type 0
Has pieces = (ps : List Piece) × pieces ps

-- a value in the range of its field, under a layout that is not refused
pub number_has : (t : NumberType) (l : Layout) (v : ℤ) → IsAllowed t l → InRange t.signed l.endian l.order (width t l) v → Has (OfNumber t l v)
number_has t l v ok inside = let k = (field_law t l ok v).0.1 inside in (piece l.order k.0 ∷ [], (ok, (k.0, k.1, refl)))

pub byte_has : (size : Size) (n : ℕ) → width byte (high_first size) ≤ 8 → n < 2 ^ width byte (high_first size) → Has (OfUnsigned byte (high_first size) n)
byte_has size n w f = number_has byte (high_first size) (pos n) (record { within = w; even = refl }) (n, refl, f)

-- an unsigned type of more bits than a byte
pub unsigned_has : (bits : ℕ) (size : Size) (n : ℕ) → width (unsigned bits) (high_first size) ≤ bits → n < 2 ^ width (unsigned bits) (high_first size)
    → Has (OfUnsigned (unsigned bits) (high_first size) n)
unsigned_has bits size n w f = number_has (unsigned bits) (high_first size) (pos n) (record { within = w; even = refl }) (n, refl, f)

pub turns_have : {P Q : List Piece → Type 0} → Has P → Has Q → Has (InTurn P Q)
turns_have a b = (a.0 ++ b.0, (a.0, b.0, a.1, b.1, refl))

pub each_has : {V : Type 0} (P : V → List Piece → Type 0) (good : V → Type 0) → ((v : V) → good v → Has (P v)) → (vs : List V) → All good vs → Has (OfEach P vs)
each_has P good f [] all = ([], refl)
each_has P good f (v ∷ vs) all = turns_have (f v (All-head good v vs all)) (each_has P good f vs (All-tail good v vs all))
