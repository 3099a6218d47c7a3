-- Bits onto held bits, by the orders of both.
use Rattle.std.proofs.Common.{◌≡◌, ◌-◌, ◌%◌, ◌<◌, min, Bool, List, [], ◌∷◌, ◌++◌, length, map, take, drop, reverse, refl, sym, ap, ◌∙◌, arith, append_assoc, length-append, length-drop, subst}
use Rattle.std.proofs.lemmas.List.{reverse-reverse, reverse-append, length-reverse, nil_from_length}
use Rattle.std.specs.declared.io.ErrorKind.{ErrorKind}
use Rattle.deku_stream.specs.declared.ctx.Order.{Order}
use Rattle.deku_stream.specs.declared.ctx.Order.TheVariants.{Msb0, Lsb0}
use Rattle.deku_writer.specs.declared.writer.way.Way.TheVariants.{BytesBackward}
use Rattle.deku_stream.specs.Bits.{bin, chunks, facing, shown}
use Rattle.deku_stream.specs.Writers.{held, Written, remainder, cut, cross_append, append}
use Rattle.deku_device.specs.Devices.{KnownSink, Gave}
use Rattle.deku_writer.specs.Pushing.{along, full_bytes, onto_bytes, Pushed, GaveUp, PushedOnto}
use Rattle.deku_stream.proofs.Binary.{facing-facing}
use Rattle.deku_stream.proofs.Groups.{by_groups, chunks-full}
use Rattle.deku_stream.proofs.Cuts.{emitted, length-remainder}
use Rattle.deku_stream.proofs.Shown.{turned, turned-full, length-turned}
use Rattle.deku_stream.proofs.Writing.{append_some, held_some, pending_bits-held, meets_held}
use Rattle.deku_stream.proofs.Appends.{emitted-append, remainder-append}
use Rattle.deku_writer.proofs.Pushes.{emitted_one, Pushed-short}

pushed_onto : (a b : KnownSink) (from to : Order) (h hs bits : List Bool) (W : Written) → append to bits (held from h) ≡ W → Gave a b W.bytes → held to hs ≡ W.pending → length hs < 8
    → PushedOnto a b from to h hs bits
pushed_onto a b from to h hs bits W e g p l = record { gave = subst (λ V. Gave a b V.bytes) (sym e) g; rest = p ∙ sym (ap (λ V. V.pending) e); short = l }

-- ---- the same order
pub append_same : (o : Order) (h bits : List Bool) → 0 < length bits → append o bits (held o h) ≡ cut o (facing o h ++ shown o bits)
append_same o h bits s =
    append_some o bits (held o h) s (meets_held o h) ∙ ap (λ l. cut o (facing o l ++ shown o bits)) (pending_bits-held o h)

-- what is left of a cut is pending, high bit first
left_over : {a b : KnownSink} {o : Order} {h hs xs : List Bool} → Pushed a b o h hs xs → held o hs ≡ (cut o (facing o h ++ xs)).pending
left_over {a} {b} {o} {h} {hs} {xs} m = ap (held o) (sym (facing-facing o hs) ∙ ap (facing o) m.rest)

pub same_onto : (a b : KnownSink) (o : Order) (h hs bits : List Bool) → 0 < length bits → Pushed a b o h hs (shown o bits) → PushedOnto a b o o h hs bits
same_onto a b o h hs bits s m =
    pushed_onto a b o o h hs bits (cut o (facing o h ++ shown o bits)) (append_same o h bits s) m.gave (left_over m) (Pushed-short m)

pub same_stopped : (a b : KnownSink) (o : Order) (h bits : List Bool) (k : ErrorKind) → 0 < length bits → GaveUp a b (full_bytes o h (shown o bits)) k
    → GaveUp a b (onto_bytes o o h bits) k
same_stopped a b o h bits k s f = subst (λ W. GaveUp a b W.bytes k) (sym (append_same o h bits s)) f

pub empty_stopped : (a b : KnownSink) (from to : Order) (h bits : List Bool) (k : ErrorKind) → length h ≡ 0 → 0 < length bits → GaveUp a b (full_bytes to h (shown to bits)) k
    → GaveUp a b (onto_bytes from to h bits) k
empty_stopped a b from to [] bits k n s f = subst (λ W. GaveUp a b W.bytes k) (sym (append_same to [] bits s)) f
empty_stopped a b from to (x ∷ h) bits k n s f = absurd (omega arith)

pub empty_onto : (a b : KnownSink) (from to : Order) (h hs bits : List Bool) → length h ≡ 0 → 0 < length bits → Pushed a b to h hs (shown to bits) → PushedOnto a b from to h hs bits
empty_onto a b from to [] hs bits n s m =
    pushed_onto a b from to [] hs bits (cut to (facing to [] ++ shown to bits)) (append_same to [] bits s) m.gave (left_over m) (Pushed-short m)
empty_onto a b from to (x ∷ h) hs bits n s m = absurd (omega arith)

-- ---- `Lsb0` bits into `Msb0` bits
append_into : (h bits : List Bool) → 0 < length h → 0 < length bits → append Lsb0 bits (held Msb0 h) ≡ cross_append Lsb0 bits h
unfolding append
append_into [] bits p s = absurd (omega arith)
append_into (x ∷ h) [] p s = absurd (omega arith)
append_into (x ∷ h) (b ∷ bits) p s = refl

pub into_onto : (a b : KnownSink) (h hs bits : List Bool) → 0 < length h → 0 < length bits
    → Pushed a b Msb0 [] hs (take (min (8 - length bits % 8) (length h)) h ++ bits ++ drop (min (8 - length bits % 8) (length h)) h) → PushedOnto a b Msb0 Lsb0 h hs bits
into_onto a b h hs bits p s m =
    pushed_onto a b Msb0 Lsb0 h hs bits (cross_append Lsb0 bits h) (append_into h bits p s) m.gave (ap (held Lsb0) m.rest) (Pushed-short m)

pub into_stopped : (a b : KnownSink) (h bits : List Bool) (k : ErrorKind) → 0 < length h → 0 < length bits
    → GaveUp a b (full_bytes Msb0 [] (take (min (8 - length bits % 8) (length h)) h ++ bits ++ drop (min (8 - length bits % 8) (length h)) h)) k
    → GaveUp a b (onto_bytes Msb0 Lsb0 h bits) k
into_stopped a b h bits k p s f = subst (λ W. GaveUp a b W.bytes k) (sym (append_into h bits p s)) f

-- ---- `Msb0` bits above `Lsb0` bits
-- whole bytes, the last one first
emitted-backward : (s : List Bool) → length s % 8 ≡ 0 → emitted Msb0 (reverse (turned s)) ≡ reverse (map bin (chunks s))
emitted-backward s = by_groups (λ s. length s % 8 ≡ 0 → emitted Msb0 (reverse (turned s)) ≡ reverse (map bin (chunks s))) (λ w. refl)
    (λ s p l w. absurd (omega arith))
    (λ g t l ih w.
    let n : length t % 8 ≡ 0 = omega (arith, length-append g t) in
    let r : List Bool = reverse (turned t) in
    let lr : length r ≡ length t = length-reverse (turned t) ∙ length-turned t in
    let z : remainder r ≡ [] = nil_from_length (remainder r) (length-remainder r ∙ ap (λ k. k % 8) lr ∙ n) in
    ap (emitted Msb0) (ap reverse (turned-full g t l) ∙ reverse-append (reverse g) (turned t) ∙ ap (λ x. r ++ x) (reverse-reverse g))
    ∙ emitted-append Msb0 r g ∙ ap (λ x. emitted Msb0 r ++ emitted Msb0 (x ++ g)) z ∙ ap (λ x. emitted Msb0 r ++ x) (emitted_one Msb0 g l)
    ∙ ap (λ x. x ++ bin g ∷ []) (ih n) ∙ sym (reverse-append (bin g ∷ []) (map bin (chunks t))) ∙ ap (λ x. reverse (map bin x)) (sym (chunks-full g t l)))
    s

pub append_above : (h bits : List Bool) → 0 < length h → 0 < length bits → append Msb0 bits (held Lsb0 h) ≡ cross_append Msb0 bits h
unfolding append
append_above h [] p s = absurd (omega arith)
append_above h (b ∷ bits) p s = ap (append Msb0 (b ∷ bits)) (held_some Lsb0 h p)

-- what goes out, the last bytes first, and what is left
module _ (h bits : List Bool) (p : 0 < length h) (s : 0 < length bits) where
  abbrev low : List Bool
  low = take (length bits % 8) bits ++ h

  abbrev turned_back : List Bool
  turned_back = along BytesBackward (drop (length bits % 8) bits)

  none_left : remainder turned_back ≡ []
  none_left =
      let d : List Bool = drop (length bits % 8) bits in
      let w : length d % 8 ≡ 0 = omega (arith, length-drop (length bits % 8) bits) in
      let lx : length turned_back ≡ length d = length-reverse (turned d) ∙ length-turned d in
      nil_from_length (remainder turned_back) (length-remainder turned_back ∙ ap (λ k. k % 8) lx ∙ w)

  parts : (turned_back ++ take (length bits % 8) bits) ++ h ≡ turned_back ++ low
  parts = append_assoc turned_back (take (length bits % 8) bits) h

  pub above_bytes_out : full_bytes Msb0 [] (turned_back ++ take (length bits % 8) bits ++ h) ≡ onto_bytes Lsb0 Msb0 h bits
  above_bytes_out =
      let d : List Bool = drop (length bits % 8) bits in
      let w : length d % 8 ≡ 0 = omega (arith, length-drop (length bits % 8) bits) in
      ap (emitted Msb0) parts ∙ emitted-append Msb0 turned_back low ∙ ap (λ l. emitted Msb0 turned_back ++ emitted Msb0 (l ++ low)) none_left ∙ ap (λ l. l ++ emitted Msb0 low) (emitted-backward d w)
      ∙ sym (ap (λ W. W.bytes) (append_above h bits p s))

  pub above_left : remainder (turned_back ++ take (length bits % 8) bits ++ h) ≡ remainder low
  above_left = ap remainder parts ∙ remainder-append turned_back low ∙ ap (λ l. remainder (l ++ low)) none_left

pub above_onto : (a b : KnownSink) (h hs bits : List Bool) → 0 < length h → 0 < length bits
    → Pushed a b Msb0 [] hs (along BytesBackward (drop (length bits % 8) bits) ++ take (length bits % 8) bits ++ h) → PushedOnto a b Lsb0 Msb0 h hs bits
above_onto a b h hs bits p s m = record {
  gave = subst (λ l. Gave a b l) (above_bytes_out h bits p s) m.gave;
  rest = ap (held Msb0) (m.rest ∙ above_left h bits p s) ∙ sym (ap (λ W. W.pending) (append_above h bits p s));
  short = Pushed-short m;
}

pub above_stopped_onto : (a b : KnownSink) (h bits : List Bool) (k : ErrorKind) → 0 < length h → 0 < length bits
    → GaveUp a b (full_bytes Msb0 [] (along BytesBackward (drop (length bits % 8) bits) ++ take (length bits % 8) bits ++ h)) k → GaveUp a b (onto_bytes Lsb0 Msb0 h bits) k
above_stopped_onto a b h bits k p s f = subst (λ l. GaveUp a b l k) (above_bytes_out h bits p s) f

pub ruleset onto = (same_onto, empty_onto, into_onto, above_onto)

pub ruleset stopped_onto = (same_stopped, empty_stopped, into_stopped, above_stopped_onto)
