-- What is pending against the bytes that pieces lay out: the write law.
use Rattle.std.proofs.Common.{ℕ, ◌+◌, ◌%◌, ◌<◌, ◌≡◌, ◌⊎◌, List, [], ◌∷◌, ◌++◌, Bool, length, map, refl, ap, sym, ◌∙◌, inl, inr, arith, append_assoc, length-append}
use Rattle.deku_stream.specs.declared.ctx.Order.{Order}
use Rattle.deku_stream.specs.declared.ctx.Order.TheVariants.{Msb0, Lsb0}
use Rattle.deku_stream.specs.Bits.{facing, shown}
use Rattle.deku_stream.specs.Pieces.{Piece, piece, laid_out, shape, AlignedFrom}
use Rattle.deku_stream.specs.Writers.{Pending, Nothing, Held, held, pending_bits, remainder, cut, same_append, append, padded, Meets}
use Rattle.deku_stream.specs.Symmetry.{appended, WriteLaw}
use Rattle.deku_stream.proofs.Binary.{length-facing, facing-facing}
use Rattle.deku_stream.proofs.Cuts.{emitted, length-remainder, laid_out-join, laid_out_cut, laid_out_end, same_order_self}
use Rattle.deku_stream.proofs.Shown.{length-shown, shown-shown}

-- ---- one append
pub append_some : (o : Order) (bits : List Bool) (P : Pending) → 0 < length bits → Meets o P → append o bits P ≡ same_append o bits (pending_bits P)
unfolding append
append_some o [] P p h = absurd (omega arith)
append_some Msb0 (b ∷ s) Nothing p h = refl
append_some Lsb0 (b ∷ s) Nothing p h = refl
append_some o (b ∷ s) (Held q L) p h = rw (← h) (rw (same_order_self o) refl)

pub append_is : (o : Order) (s : List Bool) (P : Pending) → 0 < length s → Meets o P → append o (shown o s) P ≡ cut o (facing o (pending_bits P) ++ s)
append_is o s P p h =
    append_some o (shown o s) P (rw (length-shown o s) p) h ∙ ap (λ x. cut o (facing o (pending_bits P) ++ x)) (shown-shown o s)

pub held_some : (o : Order) (s : List Bool) → 0 < length s → held o s ≡ Held o s
held_some o [] p = absurd (omega arith)
held_some o (b ∷ s) p = refl

pub pending_bits-held : (o : Order) (s : List Bool) → pending_bits (held o s) ≡ s
pending_bits-held o [] = refl
pending_bits-held o (b ∷ s) = refl

pub meets_held : (o : Order) (s : List Bool) → Meets o (held o s)
meets_held o [] = refl
meets_held o (b ∷ s) = refl

-- ---- what is pending, as a piece in front of those that are still to be written
abbrev pub pending_piece : Pending → Piece
pending_piece Nothing = piece Msb0 []
pending_piece (Held o s) = piece o (facing o s)

-- a remainder, as it is held
cut_piece : (o : Order) (r : List Bool) (qs : List Piece) → laid_out (pending_piece (held o (facing o r)) ∷ qs) ≡ laid_out (piece o r ∷ qs)
unfolding laid_out
cut_piece Msb0 [] qs = refl
cut_piece Lsb0 [] qs = refl
cut_piece o (b ∷ r) qs =
    ap (λ P. laid_out (pending_piece P ∷ qs)) (held_some o (facing o (b ∷ r)) (rw (length-facing o (b ∷ r)) (omega arith)))
    ∙ ap (λ x. laid_out (piece o x ∷ qs)) (facing-facing o (b ∷ r))

-- one piece more: the groups that it completes are bytes, and the remainder is pending
step : (o : Order) (s : List Bool) (P : Pending) (qs : List Piece) → 0 < length s → Meets o P →
    laid_out (pending_piece P ∷ piece o s ∷ qs) ≡ (append o (shown o s) P).bytes ++ laid_out (pending_piece (append o (shown o s) P).pending ∷ qs)
unfolding laid_out
step o s P qs p h =
    let t : List Bool = facing o (pending_bits P) ++ s in
    rw (append_is o s P p h)
    (joined o P h ∙ laid_out_cut o t qs ∙ ap (λ x. emitted o t ++ x) (sym (cut_piece o (remainder t) qs)))
  where
    joined : (o : Order) (P : Pending) → Meets o P → laid_out (pending_piece P ∷ piece o s ∷ qs) ≡ laid_out (piece o (facing o (pending_bits P) ++ s) ∷ qs)
    joined Msb0 Nothing h = refl
    joined Lsb0 Nothing h = refl
    joined o (Held q L) h = rw (← h) (laid_out-join o (facing o L) s qs)

-- ---- a list of pieces
-- n bits are written, o is the order of the last of them
abbrev pub IsAt : ℕ → Order → Pending → Type 0
IsAt n o Nothing = n % 8 ≡ 0
IsAt n o (Held p s) = (0 < length s) × (length s < 8) × (n % 8 ≡ length s) × (p ≡ o)

at_held : (n : ℕ) (o : Order) (s : List Bool) → n % 8 ≡ length s → length s < 8 → IsAt n o (held o s)
at_held n o [] e l = e
at_held n o (b ∷ s) e l = (omega arith, l, e, refl)

at_count : (n : ℕ) (o : Order) (P : Pending) → IsAt n o P → n % 8 ≡ length (pending_bits P)
at_count n o Nothing a = a
at_count n o (Held p s) a = a.2

end : (n : ℕ) (o : Order) (P : Pending) → IsAt n o P → padded P ≡ laid_out (pending_piece P ∷ [])
unfolding laid_out padded
end n o Nothing a = refl
end n o (Held p s) a = sym (laid_out_end p (facing p s) (rw (length-facing p s) a.0) (rw (length-facing p s) a.1))

stepped : (n : ℕ) (o p : Order) (s : List Bool) (P : Pending) → IsAt n o P → 0 < length s → Meets p P → IsAt (n + length s) p (append p (shown p s) P).pending
stepped n o p s P a l h =
    let t : List Bool = facing p (pending_bits P) ++ s in
    let lt : length t ≡ length (pending_bits P) + length s = length-append (facing p (pending_bits P)) s ∙ ap (λ x. x + length s) (length-facing p (pending_bits P)) in
    let lr : length (facing p (remainder t)) ≡ length t % 8 = length-facing p (remainder t) ∙ length-remainder t in
    let was : n % 8 ≡ length (pending_bits P) = at_count n o P a in
    rw (append_is p s P l h) (at_held (n + length s) p (facing p (remainder t)) (omega arith) (omega arith))

-- an aligned piece meets nothing pending, or its own order
meets : (n : ℕ) (o q : Order) (P : Pending) → IsAt n o P → (n % 8 ≡ 0) ⊎ (q ≡ o) → Meets q P
meets n o q Nothing a h = refl
meets n o q (Held p s) a (inl e) = absurd (omega (arith, a.0, a.2))
meets n o q (Held p s) a (inr e) = e ∙ sym (a.3)

abbrev WritesFrom : List Piece → Type 0
WritesFrom ps = (n : ℕ) (o : Order) (P : Pending) → IsAt n o P → AlignedFrom n o (map shape ps)
    → (appended ps P).bytes ++ padded (appended ps P).pending ≡ laid_out (pending_piece P ∷ ps)

write_more : (q : Order) (s : List Bool) (ps : List Piece) → WritesFrom ps → (n : ℕ) (o : Order) (P : Pending) → IsAt n o P → AlignedFrom n o ((q, length s) ∷ map shape ps)
    → (appended (piece q s ∷ ps) P).bytes ++ padded (appended (piece q s ∷ ps) P).pending ≡ laid_out (pending_piece P ∷ piece q s ∷ ps)
unfolding shown append appended laid_out
write_more Msb0 [] ps ih n o P a h = ih n o P a h
write_more Lsb0 [] ps ih n o P a h = ih n o P a h
write_more q (b ∷ s) ps ih n o P a h =
    let m = meets n o q P a h.0 in
    let some : 0 < length (b ∷ s) = omega arith in
    let others = ih (n + length (b ∷ s)) q (append q (shown q (b ∷ s)) P).pending (stepped n o q (b ∷ s) P a some m) h.1 in
    append_assoc (append q (shown q (b ∷ s)) P).bytes
    (appended ps (append q (shown q (b ∷ s)) P).pending).bytes
    (padded (appended ps (append q (shown q (b ∷ s)) P).pending).pending)
    ∙ ap (λ x. (append q (shown q (b ∷ s)) P).bytes ++ x) others
    ∙ sym (step q (b ∷ s) P ps some m)

write_from : (ps : List Piece) → WritesFrom ps
unfolding appended
write_from [] n o P a h = end n o P a
write_from (p ∷ ps) n o P a h = write_more p.order p.bits ps (write_from ps) n o P a h

pub write_law : WriteLaw
unfolding laid_out
write_law ps h = write_from ps 0 Msb0 Nothing refl h
