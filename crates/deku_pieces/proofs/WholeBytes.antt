-- Pieces of whole bytes, taken in turn from the first byte on, lay out these bytes.
use Rattle.std.proofs.Common.{◌≡◌, ℕ, zero, suc, ◌+◌, ◌*◌, ◌-◌, ◌<◌, Bool, List, [], ◌∷◌, ◌++◌, length, map, take, drop, All, refl, ap, sym, ◌∙◌, subst, arith}
use Rattle.std.proofs.lemmas.List.{take_all}
use Rattle.std.proofs.lemmas.List.Elements.{All-head, All-tail, All-take}
use Rattle.deku_bits.specs.declared.ctx.Order.{Order}
use Rattle.deku_bits.specs.declared.ctx.Order.TheVariants.{Msb0}
use Rattle.deku_bits.specs.Bits.{byte_bits, facing, group_number}
use Rattle.deku_bits.specs.Streams.{Stream, fresh, left, bit_count}
use Rattle.deku_bits.specs.Pieces.{Piece, shape, last_order, cleared, filled}
use Rattle.deku_bits.specs.Symmetry.{Takes}
use Rattle.deku_bits.proofs.Binary.{length-facing}
use Rattle.deku_bits.proofs.Cuts.{filled_whole, length-byte_bits, byte-of}
use Rattle.deku_bits.proofs.Rewriting.{rewrite_law}
use Rattle.deku_bits.proofs.Skips.{left_count}
use Rattle.deku_bits.proofs.Taking.{cut_law}
use Rattle.deku_pieces.specs.Symmetric.{breadth}
use Rattle.deku_pieces.specs.Packs.{WholeBytesLaw}

-- bits that are taken in turn are as many fewer
pub takes_count : (ps : List Piece) (S T : Stream) → length S.window < 8 → Takes ps S T → (breadth ps + bit_count T ≡ bit_count S) × (length T.window < 8)
takes_count [] S T short e = (let same : bit_count T ≡ bit_count S = ap bit_count (sym e) in omega (arith, same), subst (λ x. length x.window < 8) e short)
takes_count (p ∷ ps) S T short (has, is, k) =
    let n : ℕ = length p.bits in
    let one = left_count p.order n S has in
    let c = cut_law p.order n 0 S short (omega (arith, has)) in
    let more = takes_count ps (left p.order n S) T c.2 k in
    let m : breadth ps + bit_count T ≡ bit_count (left p.order n S) = more.0 in
    (omega (arith, one, m), more.1)

-- bytes of which no bit is cleared
cleared_none : (o : Order) (bs : List ℕ) → All (λ b. b < 256) bs → cleared o 0 bs ≡ bs
cleared_none o [] all = refl
cleared_none o (b ∷ []) all =
    let bits : List Bool = facing o (byte_bits b) in
    let eight : length bits ≡ 8 = length-facing o (byte_bits b) ∙ length-byte_bits b in
    ap (λ x. x ∷ []) (ap (λ s. group_number o (filled s)) (take_all 8 bits (omega arith)) ∙ ap (group_number o) (filled_whole bits eight) ∙ byte-of o b (All-head (λ (b : ℕ). b < 256) b [] all))
cleared_none o (b ∷ c ∷ bs) all = ap (λ x. b ∷ x) (cleared_none o (c ∷ bs) (All-tail (λ (b : ℕ). b < 256) b (c ∷ bs) all))

-- a list is so many of its items and the others
pub take_drop : (k : ℕ) (xs : List ℕ) → xs ≡ take k xs ++ drop k xs
take_drop zero xs = refl
take_drop (suc k) [] = refl
take_drop (suc k) (x ∷ xs) = ap (λ y. x ∷ y) (take_drop k xs)

-- after so many bytes that are in front
pub drop_front : (xs ys : List ℕ) (k : ℕ) → length xs ≡ k → drop k (xs ++ ys) ≡ ys
drop_front [] ys zero e = refl
drop_front [] ys (suc k) e = absurd (omega (arith, e))
drop_front (x ∷ xs) ys zero e = absurd (omega (arith, e))
drop_front (x ∷ xs) ys (suc k) e = drop_front xs ys k (omega (arith, e))

pub whole_bytes_law : WholeBytesLaw
whole_bytes_law ps bytes T k aligned small takes wide =
    let t = takes_count ps (fresh bytes) T (omega arith) takes in
    let counted : breadth ps + bit_count T ≡ 8 * length bytes = t.0 ∙ omega arith in
    let short : length T.window < 8 = t.1 in
    let none : length T.window ≡ 0 = omega (arith, counted, short, wide) in
    let at : length bytes - length T.bytes ≡ k = omega (arith, counted, none, wide) in
    rewrite_law ps bytes T aligned small takes
    ∙ ap (λ n. cleared (last_order Msb0 (map shape ps)) n (take (length bytes - length T.bytes) bytes)) none
    ∙ cleared_none (last_order Msb0 (map shape ps)) (take (length bytes - length T.bytes) bytes) (All-take (λ (b : ℕ). b < 256) (length bytes - length T.bytes) bytes small)
    ∙ ap (λ n. take n bytes) at
