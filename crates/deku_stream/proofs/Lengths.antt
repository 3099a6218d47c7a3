-- How many bytes aligned pieces lay out.
use Rattle.std.proofs.Common.{ℕ, ◌+◌, ◌/◌, ◌%◌, ◌<◌, ◌≡◌, Bool, List, [], ◌∷◌, ◌++◌, length, map, refl, ap, sym, ◌∙◌, subst, ⊎_elim, arith, length-append}
use Rattle.deku_stream.specs.declared.ctx.Order.{Order}
use Rattle.deku_stream.specs.declared.ctx.Order.TheVariants.{Msb0}
use Rattle.deku_stream.specs.Pieces.{Piece, piece, laid_out, shape, total, AlignedFrom}
use Rattle.deku_stream.specs.Writers.{remainder}
use Rattle.deku_stream.specs.Pieces.{LengthLaw}
use Rattle.deku_stream.proofs.Cuts.{emitted, length-remainder, length-emitted, laid_out-join, laid_out_cut, laid_out_end}

abbrev LengthFrom : List Piece → Type 0
LengthFrom ps = (n : ℕ) (o : Order) (P : List Bool) → length P < 8 → n % 8 ≡ length P → AlignedFrom n o (map shape ps)
    → length (laid_out (piece o P ∷ ps)) ≡ (length P + total (map shape ps) + 7) / 8

end : LengthFrom []
unfolding laid_out
end n o [] l c h = refl
end n o (b ∷ P) l c h = ap length (laid_out_end o (b ∷ P) (omega arith) l) ∙ omega arith

onward : (o : Order) (P s : List Bool) (ps : List Piece) → LengthFrom ps → (n : ℕ) → length P < 8 → n % 8 ≡ length P → AlignedFrom (n + length s) o (map shape ps)
    → length (laid_out (piece o P ∷ piece o s ∷ ps)) ≡ (length P + (length s + total (map shape ps)) + 7) / 8
unfolding laid_out
onward o P s ps ih n l c h =
    let t : List Bool = P ++ s in
    let lt : length t ≡ length P + length s = length-append P s in
    let lr : length (remainder t) ≡ length t % 8 = length-remainder t in
    let le : length (emitted o t) ≡ length t / 8 = length-emitted o t in
    let k : length (laid_out (piece o (remainder t) ∷ ps)) ≡ (length (remainder t) + total (map shape ps) + 7) / 8 =
    ih (n + length s) o (remainder t) (omega arith) (omega arith) h in
    ap length (laid_out-join o P s ps ∙ laid_out_cut o t ps) ∙ length-append (emitted o t) (laid_out (piece o (remainder t) ∷ ps)) ∙ omega arith

more : (q : Order) (s : List Bool) (ps : List Piece) → LengthFrom ps → (n : ℕ) (o : Order) (P : List Bool) → length P < 8 → n % 8 ≡ length P → AlignedFrom n o ((q, length s) ∷ map shape ps)
    → length (laid_out (piece o P ∷ piece q s ∷ ps)) ≡ (length P + (length s + total (map shape ps)) + 7) / 8
unfolding laid_out
more q [] ps ih n o P l c h = ih n o P l c h ∙ omega arith
more q (b ∷ s) ps ih n o P l c h = ⊎_elim
    (λ (z : n % 8 ≡ 0). boundary P (sym c ∙ z) z)
    (λ (z : q ≡ o). subst (λ x. length (laid_out (piece x P ∷ piece q (b ∷ s) ∷ ps)) ≡ (length P + (length (b ∷ s) + total (map shape ps)) + 7) / 8) z
    (onward q P (b ∷ s) ps ih n l c h.1))
    h.0
  where
    boundary : (P : List Bool) → length P ≡ 0 → n % 8 ≡ 0 → length (laid_out (piece o P ∷ piece q (b ∷ s) ∷ ps)) ≡ (length P + (length (b ∷ s) + total (map shape ps)) + 7) / 8
    boundary [] z m = onward q [] (b ∷ s) ps ih n (omega arith) m h.1
    boundary (x ∷ P) z m = absurd (omega arith)

lengths : (ps : List Piece) → LengthFrom ps
unfolding laid_out
lengths [] n o P l c h = end n o P l c h
lengths (p ∷ ps) n o P l c h = more p.order p.bits ps (lengths ps) n o P l c h

pub length_law : LengthLaw
unfolding laid_out
length_law ps h = lengths ps 0 Msb0 [] (omega arith) refl h ∙ omega arith
