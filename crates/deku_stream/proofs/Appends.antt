-- Two appends in one order are one; an append loses no bit; calls may be cut in two.
use Rattle.std.proofs.Common.{ℕ, ◌+◌, ◌*◌, ◌-◌, ◌/◌, ◌%◌, ◌<◌, ◌≡◌, min, Bool, true, false, List, [], ◌∷◌, ◌++◌, length, map, reverse, take, drop, refl, ap, ap₂, sym, ◌∙◌, arith, append_assoc, append-nil, length-append, length-drop}
use Rattle.std.proofs.lemmas.List.{length-reverse, length-map, length-take}
use Rattle.deku_stream.specs.declared.ctx.Order.{Order}
use Rattle.deku_stream.specs.declared.ctx.Order.TheVariants.{Msb0, Lsb0}
use Rattle.deku_stream.specs.Bits.{bin, chunks, facing, group_number, shown}
use Rattle.deku_stream.specs.Pieces.{same_order}
use Rattle.deku_stream.specs.Writers.{Pending, Nothing, Held, held, pending_bits, Written, remainder, cut, same_append, cross_append, append, padded, AppendLaw, CountLaw}
use Rattle.deku_stream.specs.Symmetry.{appended, followed, CallsLaw}
use Rattle.deku_stream.proofs.Binary.{length-facing, facing-facing}
use Rattle.deku_stream.proofs.Groups.{by_groups, length-chunks}
use Rattle.deku_stream.proofs.Cuts.{emitted, emitted-full, emitted-short, remainder-full, remainder-short, length-remainder, length-emitted}
use Rattle.deku_stream.proofs.Shown.{length-shown}
use Rattle.deku_stream.proofs.Writing.{append_is, pending_bits-held, meets_held}

-- ---- cutting in two
pub emitted-append : (o : Order) (u t : List Bool) → emitted o (u ++ t) ≡ emitted o u ++ emitted o (remainder u ++ t)
emitted-append o u t = by_groups (λ u. emitted o (u ++ t) ≡ emitted o u ++ emitted o (remainder u ++ t)) refl
    (λ s p l. rw (emitted-short o s l, remainder-short s l) refl)
    (λ g s l h. ap (emitted o) (append_assoc g s t) ∙ emitted-full o g (s ++ t) l ∙ ap (λ x. group_number o g ∷ x) h
    ∙ ap₂ (λ x y. x ++ emitted o (y ++ t)) (sym (emitted-full o g s l)) (sym (remainder-full g s l)))
    u

pub remainder-append : (u t : List Bool) → remainder (u ++ t) ≡ remainder (remainder u ++ t)
remainder-append u t = by_groups (λ u. remainder (u ++ t) ≡ remainder (remainder u ++ t)) refl
    (λ s p l. ap (λ x. remainder (x ++ t)) (sym (remainder-short s l)))
    (λ g s l h. ap remainder (append_assoc g s t) ∙ remainder-full g (s ++ t) l ∙ h ∙ ap (λ y. remainder (y ++ t)) (sym (remainder-full g s l)))
    u

pub cut-append : (o : Order) (u t : List Bool) → cut o (u ++ t) ≡ followed (cut o u) (λ _. cut o (remainder u ++ t))
cut-append o u t = ap₂ (λ x y. record { bytes = x; pending = held o (facing o y) }) (emitted-append o u t) (remainder-append u t)

append_none : (o : Order) (P : Pending) → append o (shown o []) P ≡ record { bytes = []; pending = P }
unfolding shown append
append_none Msb0 P = refl
append_none Lsb0 P = refl

pub append_law : AppendLaw
unfolding shown append
append_law Msb0 [] t P h = refl
append_law Lsb0 [] t P h = refl
append_law o (a ∷ s) [] P h =
    let first : Written = append o (shown o (a ∷ s)) P in
    ap (λ x. append o (shown o x) P) (append-nil (a ∷ s))
    ∙ ap (λ x. record { bytes = x; pending = first.pending }) (sym (append-nil first.bytes))
    ∙ ap (λ W. followed first (λ _. W)) (sym (append_none o first.pending))
append_law o (a ∷ s) (b ∷ t) P h =
    let L : List Bool = facing o (pending_bits P) in
    let u : List Bool = L ++ (a ∷ s) in
    let first : append o (shown o (a ∷ s)) P ≡ cut o u = append_is o (a ∷ s) P (omega arith) h in
    let second : append o (shown o (b ∷ t)) (cut o u).pending ≡ cut o (remainder u ++ (b ∷ t)) =
    append_is o (b ∷ t) (cut o u).pending (omega arith) (meets_held o (facing o (remainder u)))
    ∙ ap (λ x. cut o (facing o x ++ (b ∷ t))) (pending_bits-held o (facing o (remainder u)))
    ∙ ap (λ x. cut o (x ++ (b ∷ t))) (facing-facing o (remainder u)) in
    append_is o ((a ∷ s) ++ (b ∷ t)) P (omega arith) h
    ∙ ap (cut o) (sym (append_assoc L (a ∷ s) (b ∷ t)))
    ∙ cut-append o u (b ∷ t)
    ∙ ap (λ W. followed (cut o u) (λ _. W)) (sym second)
    ∙ ap (λ W. followed W (append o (shown o (b ∷ t)))) (sym first)

-- ---- no bit is lost
record Keeps (n : ℕ) (W : Written) : Type 0 where
  all : 8 * length W.bytes + length (pending_bits W.pending) ≡ n
  few : length (pending_bits W.pending) < 8

keeps_cut : (o : Order) (t : List Bool) → Keeps (length t) (cut o t)
keeps_cut o t =
    let left : length (pending_bits (held o (facing o (remainder t)))) ≡ length t % 8 =
    ap length (pending_bits-held o (facing o (remainder t))) ∙ length-facing o (remainder t) ∙ length-remainder t in
    record { all = omega (arith, length-emitted o t); few = omega arith }

keeps_same : (o : Order) (bits L : List Bool) → Keeps (length L + length bits) (same_append o bits L)
keeps_same o bits L =
    let e : length (facing o L ++ shown o bits) ≡ length L + length bits =
    length-append (facing o L) (shown o bits) ∙ ap₂ (λ x y. x + y) (length-facing o L) (length-shown o bits) in
    rw (← e) (keeps_cut o (facing o L ++ shown o bits))

keeps_cross : (o : Order) (bits L : List Bool) → length L < 8 → Keeps (length L + length bits) (cross_append o bits L)
keeps_cross Lsb0 bits L l =
    let c : ℕ = min (8 - length bits % 8) (length L) in
    let t : List Bool = take c L ++ bits ++ drop c L in
    let e : length t ≡ length L + length bits =
    omega (arith, length-append (take c L ++ bits) (drop c L), length-append (take c L) bits, length-drop c L, length-take c L) in
    let left : length (pending_bits (held Lsb0 (remainder t))) ≡ length t % 8 = ap length (pending_bits-held Lsb0 (remainder t)) ∙ length-remainder t in
    record { all = omega (arith, length-emitted Msb0 t); few = omega arith }
keeps_cross Msb0 bits L l =
    let r : ℕ = length bits % 8 in
    let t : List Bool = take r bits ++ L in
    let out : List ℕ = map bin (chunks (drop r bits)) in
    let e : length t ≡ r + length L = omega (arith, length-append (take r bits) L, length-take r bits) in
    let left : length (pending_bits (held Msb0 (remainder t))) ≡ length t % 8 = ap length (pending_bits-held Msb0 (remainder t)) ∙ length-remainder t in
    let front : length (reverse out) ≡ (length bits - r + 7) / 8 =
    length-reverse out ∙ length-map (chunks (drop r bits)) bin ∙ length-chunks (drop r bits) ∙ ap (λ x. (x + 7) / 8) (length-drop r bits) in
    record {
      all = omega (arith, length-append (reverse out) (emitted Msb0 t), length-emitted Msb0 t);
      few = omega arith;
    }

keeps_append : (o : Order) (bits : List Bool) (P : Pending) → length (pending_bits P) < 8 → Keeps (length (pending_bits P) + length bits) (append o bits P)
unfolding append
keeps_append o [] P l = record { all = omega arith; few = l }
keeps_append o (b ∷ s) Nothing l = keeps_same o (b ∷ s) []
keeps_append o (b ∷ s) (Held p L) l = go (same_order o p) refl
  where
    go : (x : Bool) → same_order o p ≡ x → Keeps (length L + length (b ∷ s)) (append o (b ∷ s) (Held p L))
    go true e = rw e (keeps_same o (b ∷ s) L)
    go false e = rw e (keeps_cross o (b ∷ s) L l)

pub count_law : CountLaw
unfolding padded
count_law = (
  λ o bits P l.
      let k = keeps_append o bits P l in
      (k.all, k.few),
  λ o s l. padding o s l,
  λ P. refl,
)
  where
    padding : (o : Order) (s : List Bool) → length s < 8 → 8 * length (padded (held o s)) < length s + 8
    padding o [] l = omega arith
    padding o (b ∷ s) l = omega arith

-- ---- several calls
pub calls_law : CallsLaw
unfolding appended
calls_law [] qs P = refl
calls_law (p ∷ ps) qs P =
    let first : Written = append p.order (shown p.order p.bits) P in
    let second : Written = appended ps first.pending in
    let third : Written = appended qs second.pending in
    ap (λ W. followed first (λ _. W)) (calls_law ps qs first.pending)
    ∙ ap (λ x. record { bytes = x; pending = third.pending }) (sym (append_assoc first.bytes second.bytes third.bytes))
