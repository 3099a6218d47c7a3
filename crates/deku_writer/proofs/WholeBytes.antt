-- Whole bytes after held bits.
use Rattle.std.proofs.Common.{◌≡◌, ℕ, ◌+◌, ◌-◌, ◌*◌, ◌/◌, ◌%◌, ◌<◌, ◌≤◌, min, Bool, List, [], ◌∷◌, ◌++◌, length, get_or, set, take, drop, reverse, All, refl, sym, ap, ap₂, ◌∙◌, append-nil, arith, subst, ⊎_elim, length-drop}
use Rattle.std.proofs.Math.Seq.{take-add}
use Rattle.std.proofs.lemmas.Bool.{cases_lt}
use Rattle.std.proofs.lemmas.List.{take_more, take_all, take-append-drop, drop_all, nil_from_length, reverse-append}
use Rattle.std.proofs.lemmas.List.Concat.{flat_map-append}
use Rattle.std.proofs.lemmas.List.Elements.{All-head, All-tail}
use Rattle.std.specs.declared.io.ErrorKind.{ErrorKind}
use Rattle.deku_stream.specs.declared.ctx.Order.{Order}
use Rattle.deku_stream.specs.declared.ctx.Order.TheVariants.{Msb0, Lsb0}
use Rattle.deku_stream.specs.Bits.{byte_bits, bits_in, shown}
use Rattle.deku_stream.specs.Writers.{held, remainder, append, cross_append}
use Rattle.deku_device.specs.Devices.{KnownSink, Gave}
use Rattle.deku_writer.specs.Pushing.{full_bytes, onto_bytes, Fills, Pushed, GaveUp, PushedOnto}
use Rattle.deku_stream.proofs.BitPlaces.{length-bits_in}
use Rattle.deku_stream.proofs.Bytes.{IsByte, bytes_of-bits_in}
use Rattle.deku_stream.proofs.Cuts.{emitted, emitted-full, emitted-short, remainder-full, remainder-short, length-byte_bits, byte-of}
use Rattle.deku_writer.proofs.Gives.{gave_up-after, gave_up-more}
use Rattle.deku_device.proofs.Transfers.{Gave-trans}
use Rattle.deku_device.proofs.Parts.{cut_part}
use Rattle.deku_writer.proofs.Fills.{fills_more}
use Rattle.deku_writer.proofs.Pushes.{Pushed-trans, Pushed-gave_up, gave_up-longer}
use Rattle.deku_writer.proofs.Onto.{same_onto, empty_onto, append_above, same_stopped, empty_stopped}

-- ---- bytes as bits, cut in eights again
pub emitted-bytes : (bs : List ℕ) → All IsByte bs → emitted Msb0 (bits_in bs) ≡ bs
emitted-bytes [] h = refl
emitted-bytes (b ∷ bs) h =
    emitted-full Msb0 (byte_bits b) (bits_in bs) (length-byte_bits b)
    ∙ ap₂ (λ x y. x ∷ y) (byte-of Msb0 b (All-head IsByte b bs h)) (emitted-bytes bs (All-tail IsByte b bs h))

pub remainder-bytes : (bs : List ℕ) → remainder (bits_in bs) ≡ []
remainder-bytes [] = refl
remainder-bytes (b ∷ bs) = remainder-full (byte_bits b) (bits_in bs) (length-byte_bits b) ∙ remainder-bytes bs

-- bytes given at once went out as their bits
pub given_at_once : (a b : KnownSink) (bs : List ℕ) → All IsByte bs → Gave a b bs → Pushed a b Msb0 [] [] (bits_in bs)
given_at_once a b bs h g = record { gave = rw (emitted-bytes bs h) g; rest = sym (remainder-bytes bs) }

-- ---- one byte after the other
bits_of_more : (bs : List ℕ) (i : ℕ) → i < length bs → bits_in (take (i + 1) bs) ≡ bits_in (take i bs) ++ byte_bits (get_or bs i 0)
bits_of_more bs i h =
    ap bits_in (take_more bs i 0 h) ∙ flat_map-append byte_bits (take i bs) (get_or bs i 0 ∷ [])
    ∙ ap (λ x. bits_in (take i bs) ++ x) (append-nil (byte_bits (get_or bs i 0)))

pub shifted_more : (h hs hs2 : List Bool) (bs out : List ℕ) (i byte : ℕ) → i < length bs → i < length out → Fills Msb0 h hs (bits_in (take i bs)) (take i out)
    → Fills Msb0 hs hs2 (byte_bits (get_or bs i 0)) (byte ∷ []) → Fills Msb0 h hs2 (bits_in (take (i + 1) bs)) (take (i + 1) (set out i byte))
shifted_more h hs hs2 bs out i byte l k p q =
    rw (bits_of_more bs i l) (fills_more Msb0 h hs hs2 (bits_in (take i bs)) (byte_bits (get_or bs i 0)) out i byte k p q)

pub shifted_all : (h hs : List Bool) (bs out : List ℕ) (i : ℕ) → length bs ≤ i → i ≤ length bs → Fills Msb0 h hs (bits_in (take i bs)) (take i out) → Fills Msb0 h hs (bits_in bs) (take (length bs) out)
shifted_all h hs bs out i l k p =
    let e : i ≡ length bs = omega arith in
    rw (take_all i bs l, e) at p

-- ---- run by run
-- the front of a list that is cut at a place past its end
take_within : (xs : List ℕ) (n : ℕ) → take (min n (length xs)) xs ≡ take n xs
take_within xs n = ⊎_elim
    (λ (h : n < length xs). let e : min n (length xs) ≡ n = omega arith in ap (λ m. take m xs) e)
    (λ (h : length xs ≤ n). take_all (min n (length xs)) xs (omega arith) ∙ sym (take_all n xs h))
    (cases_lt n (length xs))

run_more : (bs : List ℕ) (i : ℕ) → 64 * i < length bs
    → take (64 * (i + 1)) bs ≡ take (64 * i) bs ++ take (64 * i + min 64 (length bs - 64 * i) - 64 * i) (drop (64 * i) bs)
run_more bs i l =
    let n : 64 * (i + 1) ≡ 64 * i + 64 = omega arith in
    let m : 64 * i + min 64 (length bs - 64 * i) - 64 * i ≡ min 64 (length (drop (64 * i) bs)) = omega (arith, length-drop (64 * i) bs) in
    rw (n, m, take_within (drop (64 * i) bs) 64) (take-add (64 * i) 64 bs)

module _ (a b c : KnownSink) (h hs : List Bool) (bs : List ℕ) (i : ℕ) (inside : 64 * i < length bs) (short : length h < 8) (so_far : Pushed a b Msb0 h hs (bits_in (take (64 * i) bs))) where
  abbrev run : List ℕ
  run = take (64 * i + min 64 (length bs - 64 * i) - 64 * i) (drop (64 * i) bs)

  pub runs_more : (hs2 : List Bool) → Pushed b c Msb0 hs hs2 (bits_in run) → Pushed a c Msb0 h hs2 (bits_in (take (64 * (i + 1)) bs))
  runs_more hs2 m =
      subst (λ x. Pushed a c Msb0 h hs2 x) (sym (ap bits_in (run_more bs i inside) ∙ flat_map-append byte_bits (take (64 * i) bs) run))
      (Pushed-trans a b c Msb0 h hs hs2 (bits_in (take (64 * i) bs)) (bits_in run) so_far m)

  pub runs_stopped : (k : ErrorKind) → GaveUp b c (full_bytes Msb0 hs (bits_in run)) k → GaveUp a c (full_bytes Msb0 h (bits_in bs)) k
  runs_stopped k f =
      let n : ℕ = 64 * (i + 1) in
      let tried : GaveUp a c (full_bytes Msb0 h (bits_in (take n bs))) k =
      subst (λ x. GaveUp a c (full_bytes Msb0 h x) k) (sym (ap bits_in (run_more bs i inside) ∙ flat_map-append byte_bits (take (64 * i) bs) run))
      (Pushed-gave_up a b c Msb0 h hs (bits_in (take (64 * i) bs)) (bits_in run) k so_far f) in
      subst (λ x. GaveUp a c (full_bytes Msb0 h x) k) (sym (flat_map-append byte_bits (take n bs) (drop n bs)) ∙ ap bits_in (take-append-drop n bs))
      (gave_up-longer a c Msb0 h (bits_in (take n bs)) (bits_in (drop n bs)) k tried)

pub runs_all : (a b : KnownSink) (h hs : List Bool) (bs : List ℕ) (i : ℕ) → length bs ≤ 64 * i → Pushed a b Msb0 h hs (bits_in (take (64 * i) bs)) → Pushed a b Msb0 h hs (bits_in bs)
runs_all a b h hs bs i l m = rw (take_all (64 * i) bs l) at m

-- ---- run by run, the last byte first
module _ (a b c : KnownSink) (bs : List ℕ) (i : ℕ) (inside : 64 * i < length bs) (so_far : Gave a b (reverse (drop (length bs - 64 * i) bs))) where
  abbrev end : ℕ
  end = length bs - 64 * i

  abbrev begin : ℕ
  begin = end - min 64 end

  abbrev back : List ℕ
  back = take (end - begin) (drop begin bs)

  turned_run : reverse (drop (length bs - 64 * (i + 1)) bs) ≡ reverse (drop end bs) ++ reverse back
  turned_run =
      let e : length bs - 64 * (i + 1) ≡ begin = omega arith in
      let n : begin + (end - begin) ≡ end = omega arith in
      ap (λ x. reverse (drop x bs)) e ∙ ap reverse (cut_part bs begin (end - begin)) ∙ ap (λ x. reverse (back ++ drop x bs)) n ∙ reverse-append back (drop end bs)

  pub above_more : Gave b c (reverse back) → Gave a c (reverse (drop (length bs - 64 * (i + 1)) bs))
  above_more g = rw turned_run (Gave-trans a b c (reverse (drop end bs)) (reverse back) so_far g)

  pub above_stopped : (k : ErrorKind) → GaveUp b c (reverse back) k → GaveUp a c (reverse bs) k
  above_stopped k f =
      let n : ℕ = length bs - 64 * (i + 1) in
      let tried : GaveUp a c (reverse (drop n bs)) k = subst (λ x. GaveUp a c x k) (sym turned_run) (gave_up-after a b c (reverse (drop end bs)) (reverse back) k so_far f) in
      subst (λ x. GaveUp a c x k) (sym (reverse-append (take n bs) (drop n bs)) ∙ ap reverse (take-append-drop n bs))
      (gave_up-more a c (reverse (drop n bs)) (reverse (take n bs)) k tried)

pub above_none : (a : KnownSink) (bs : List ℕ) → Gave a a [] → Gave a a (reverse (drop (length bs - 64 * 0) bs))
above_none a bs g = rw (drop_all (length bs - 64 * 0) bs (omega arith)) g

pub above_all : (a b : KnownSink) (bs : List ℕ) (i : ℕ) → length bs ≤ 64 * i → Gave a b (reverse (drop (length bs - 64 * i) bs)) → Gave a b (reverse bs)
above_all a b bs i l g = let e : length bs - 64 * i ≡ 0 = omega arith in rw e at g

-- ---- onto held bits
some_bits : (bs : List ℕ) → 0 < length bs → 0 < length (bits_in bs)
some_bits bs p = omega (arith, length-bits_in bs)

pub bytes_onto_none : (a b : KnownSink) (from : Order) (h : List Bool) (bs : List ℕ) → length h ≡ 0 → 0 < length bs → Pushed a b Msb0 [] [] (bits_in bs)
    → PushedOnto a b from Msb0 h h (bits_in bs)
unfolding shown
bytes_onto_none a b from [] bs n p m = empty_onto a b from Msb0 [] [] (bits_in bs) n (some_bits bs p) m
bytes_onto_none a b from (x ∷ h) bs n p m = absurd (omega arith)

pub bytes_onto_same : (a b : KnownSink) (h hs : List Bool) (bs : List ℕ) → 0 < length bs → Pushed a b Msb0 h hs (bits_in bs) → PushedOnto a b Msb0 Msb0 h hs (bits_in bs)
unfolding shown
bytes_onto_same a b h hs bs p m = same_onto a b Msb0 h hs (bits_in bs) (some_bits bs p) m

-- bytes above `Lsb0` bits
above_bytes : (bs : List ℕ) (h : List Bool) → All IsByte bs → length h < 8 → cross_append Msb0 (bits_in bs) h ≡ record { bytes = reverse bs; pending = held Msb0 h }
above_bytes bs h all l =
    let z : length (bits_in bs) % 8 ≡ 0 = omega (arith, length-bits_in bs) in
    rw z
    (ap₂ (λ x y. record { bytes = x; pending = held Msb0 y })
    (ap (λ x. reverse x ++ emitted Msb0 h) (bytes_of-bits_in bs all) ∙ ap (λ x. reverse bs ++ x) (emitted-short Msb0 h l) ∙ append-nil (reverse bs))
    (remainder-short h l))

pub bytes_onto_other : (a b : KnownSink) (h : List Bool) (bs : List ℕ) → 0 < length h → length h < 8 → 0 < length bs → All IsByte bs → Gave a b (reverse bs)
    → PushedOnto a b Lsb0 Msb0 h h (bits_in bs)
bytes_onto_other a b h bs q l p all g =
    let e : append Msb0 (bits_in bs) (held Lsb0 h) ≡ record { bytes = reverse bs; pending = held Msb0 h } = append_above h (bits_in bs) q (some_bits bs p) ∙ above_bytes bs h all l in
    record { gave = subst (λ W. Gave a b W.bytes) (sym e) g; rest = sym (ap (λ W. W.pending) e); short = l }

-- where the sink gave up
pub bytes_stopped_none : (a b : KnownSink) (from : Order) (h : List Bool) (bs : List ℕ) (k : ErrorKind) → length h ≡ 0 → 0 < length bs → All IsByte bs → GaveUp a b bs k
    → GaveUp a b (onto_bytes from Msb0 h (bits_in bs)) k
unfolding shown
bytes_stopped_none a b from h bs k n p all f =
    empty_stopped a b from Msb0 h (bits_in bs) k n (some_bits bs p) (subst (λ x. GaveUp a b x k) (sym (ap (λ x. full_bytes Msb0 x (bits_in bs)) (nil_from_length h n) ∙ emitted-bytes bs all)) f)

pub bytes_stopped_same : (a b : KnownSink) (h : List Bool) (bs : List ℕ) (k : ErrorKind) → 0 < length bs → GaveUp a b (full_bytes Msb0 h (bits_in bs)) k
    → GaveUp a b (onto_bytes Msb0 Msb0 h (bits_in bs)) k
unfolding shown
bytes_stopped_same a b h bs k p f = same_stopped a b Msb0 h (bits_in bs) k (some_bits bs p) f

pub bytes_stopped_other : (a b : KnownSink) (h : List Bool) (bs : List ℕ) (k : ErrorKind) → 0 < length h → length h < 8 → 0 < length bs → All IsByte bs → GaveUp a b (reverse bs) k
    → GaveUp a b (onto_bytes Lsb0 Msb0 h (bits_in bs)) k
bytes_stopped_other a b h bs k q l p all f = subst (λ W. GaveUp a b W.bytes k) (sym (append_above h (bits_in bs) q (some_bits bs p) ∙ above_bytes bs h all l)) f

-- how many bytes they make with the held bits
pub whole_count : (h : List Bool) (bs : List ℕ) → length h < 8 → length bs ≡ (length h + length (bits_in bs)) / 8
whole_count h bs l = omega (arith, length-bits_in bs)
