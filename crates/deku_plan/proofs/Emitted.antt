-- Values that are laid into a slice are what is written over it.
use Rattle.std.proofs.Common.{◌≡◌, ℕ, zero, suc, ◌+◌, ◌*◌, ◌<◌, ◌≤◌, ◌^◌, Bool, false, None, Some, Ok, List, [], ◌∷◌, ◌++◌, length, take, drop, All, refl, ap, ap₂, sym, ◌∙◌, subst, inl, inr, arith, append_assoc, append-nil, length-append, length-drop}
use Rattle.std.proofs.lemmas.Bool.{le-leb}
use Rattle.std.proofs.lemmas.List.{drop-drop, length-take-le}
use Rattle.std.proofs.lemmas.List.Elements.{All-head, All-tail, All-take}
use Rattle.deku_bits.specs.declared.ctx.Order.TheVariants.{Msb0}
use Rattle.deku_bits.specs.Devices.{Health, bytes_before}
use Rattle.deku_bits.specs.Bits.{bits_in, bits_of, byte_bits, shown}
use Rattle.deku_bits.specs.Streams.{flow}
use Rattle.deku_bits.specs.Standings.{Going, Output}
use Rattle.deku_bits.specs.Outcomes.{Quiet}
use Rattle.deku_bits.specs.Writers.{Pending, Nothing, held, Written, remainder, append, padded, Meets}
use Rattle.deku_bits.specs.WriterCalls.{WritesBits, Finalizes}
use Rattle.deku_bits.proofs.Appends.{append_law}
use Rattle.deku_bits.proofs.Bytes.{IsByte}
use Rattle.deku_bits.proofs.Cuts.{emitted, emitted-full, emitted-short, remainder-full, remainder-short, length-byte_bits, byte-of, length-flow}
use Rattle.deku_bits.proofs.Failures.{no_fewer_same}
use Rattle.deku_bits.proofs.Handing.{unbroken}
use Rattle.deku_bits.proofs.Writing.{append_is, meets_held}
use Rattle.deku.specs.Composing.{Both, Answered, Second}
use Rattle.deku.specs.Wholes.{WritesOver}
use Rattle.deku_fields.specs.declared.list.Number.{Number}
use Rattle.deku_fields.specs.declared.list.Number.TheVariants.{Unsigned, Signed}
use Rattle.deku_fields.specs.declared.list.Field.{Field}
use Rattle.deku_fields.specs.ListCalls.{WritesItem, WritesItems}
use Rattle.deku_fields.proofs.Plain.{high_item}
use Rattle.deku_plan.specs.declared.step.Step.{Step}
use Rattle.deku_plan.specs.Plans.{IsHigh, IsStepOf, AreSteps, item, items}
use Rattle.deku_plan.specs.Records.{records}
use Rattle.deku_plan.specs.Laying.{turns, HasBits, AreFitting, value_bits, row_bits}
use Rattle.deku_plan.proofs.Recorded.{all_records}

-- a sink of known bytes and room
abbrev pub sink_at : List ℕ → List ℕ → Pending → Output
sink_at taken room pending = record { taken = Some taken; room = Some room; pending = pending }

abbrev sound : Health
sound = record { failures = Some 0; lenders = []; whole = None }

-- ---- one value
bits_go : (s : List Bool) (T R : List ℕ) (P : Pending) (c : ℕ) → c + 8 * length (append Msb0 s P).bytes < 2 ^ 64 → length (append Msb0 s P).bytes ≤ length R
    → WritesBits Msb0 s false (Going (sink_at T R P) c) (Ok tt)
    (Going (sink_at (T ++ (append Msb0 s P).bytes) (drop (length (append Msb0 s P).bytes) R) (append Msb0 s P).pending) (c + 8 * length (append Msb0 s P).bytes))
bits_go s T R P c counted room =
    let w : Written = append Msb0 s P in
    inr (counted, inl (sink_at (T ++ w.bytes) (drop (length w.bytes) R) w.pending, record { taken = refl; room = (room, refl); pending = refl }, refl, refl))

value_goes : (f : Field) (v : Number) (st : Step) (T R : List ℕ) (P : Pending) (c : ℕ) → IsStepOf f st → IsHigh f → HasBits st.width v
    → c + 8 * length (append Msb0 (value_bits st.width v) P).bytes < 2 ^ 64 → length (append Msb0 (value_bits st.width v) P).bytes ≤ length R
    → WritesItem (item f v) false (Going (sink_at T R P) c) (Ok tt)
    (Going (sink_at (T ++ (append Msb0 (value_bits st.width v) P).bytes) (drop (length (append Msb0 (value_bits st.width v) P).bytes) R) (append Msb0 (value_bits st.width v) P).pending)
    (c + 8 * length (append Msb0 (value_bits st.width v) P).bytes))
unfolding shown
value_goes f (Signed z) st T R P c is high fits counted room = absurd fits
value_goes f (Unsigned n) st T R P c is high fits counted room =
    unbroken {f = sound} {g = sound} refl refl
    (high_item (item f (Unsigned n)) st.width n refl high.unsigned high.big high.high is.wide is.allowed fits
    (Quiet (bits_go (bits_of st.width n) T R P c counted room) (no_fewer_same sound)))

-- ---- values in a row
meets_after : (s : List Bool) (P : Pending) → Meets Msb0 P → Meets Msb0 (append Msb0 s P).pending
unfolding shown append
meets_after [] P h = h
meets_after (b ∷ s) P h = rw (append_is Msb0 (b ∷ s) P (omega arith) h) (meets_held Msb0 _)

none_appended : (P Q : Pending) (bs : List ℕ) → append Msb0 [] P ≡ record { bytes = bs; pending = Q } → ([] ≡ bs) × (P ≡ Q)
unfolding append
none_appended P Q bs e = (ap (λ w. w.bytes) e, ap (λ w. w.pending) e)

two_appended : (s t : List Bool) (P Q : Pending) (bs : List ℕ) → Meets Msb0 P → append Msb0 (s ++ t) P ≡ record { bytes = bs; pending = Q }
    → ((append Msb0 s P).bytes ++ (append Msb0 t (append Msb0 s P).pending).bytes ≡ bs) × ((append Msb0 t (append Msb0 s P).pending).pending ≡ Q)
unfolding shown
two_appended s t P Q bs h e =
    let law = sym (append_law Msb0 s t P h) ∙ e in
    (ap (λ w. w.bytes) law, ap (λ w. w.pending) law)

end_is : (T R xs ys bs : List ℕ) (P Q : Pending) (c : ℕ) → xs ++ ys ≡ bs → P ≡ Q
    → Going (sink_at ((T ++ xs) ++ ys) (drop (length ys) (drop (length xs) R)) P) (c + 8 * length xs + 8 * length ys) ≡ Going (sink_at (T ++ bs) (drop (length bs) R) Q) (c + 8 * length bs)
end_is T R xs ys bs P Q c e p =
    let long : length xs + length ys ≡ length bs = sym (length-append xs ys) ∙ ap length e in
    let count : c + 8 * length xs + 8 * length ys ≡ c + 8 * length bs = omega (arith, long) in
    let taken : (T ++ xs) ++ ys ≡ T ++ bs = append_assoc T xs ys ∙ ap (λ x. T ++ x) e in
    let room : drop (length ys) (drop (length xs) R) ≡ drop (length bs) R = drop-drop (length ys) (length xs) R ∙ ap (λ n. drop n R) long in
    rw (taken, room, p, count) refl

row_goes : (fs : List Field) (ss : List Step) (ns : List Number) (T R bs : List ℕ) (P Q : Pending) (c : ℕ) → AreSteps fs ss → All IsHigh fs → AreFitting ss ns → Meets Msb0 P
    → append Msb0 (row_bits ss ns) P ≡ record { bytes = bs; pending = Q } → c + 8 * length bs < 2 ^ 64 → length bs ≤ length R
    → WritesItems (items fs ns) false (Going (sink_at T R P) c) (Ok tt) (Going (sink_at (T ++ bs) (drop (length bs) R) Q) (c + 8 * length bs))
row_goes [] (s ∷ ss) ns T R bs P Q c are high fit h e counted room = absurd are
row_goes (f ∷ fs) [] ns T R bs P Q c are high fit h e counted room = absurd are
row_goes [] [] (n ∷ ns) T R bs P Q c are high fit h e counted room = absurd fit
row_goes (f ∷ fs) (s ∷ ss) [] T R bs P Q c are high fit h e counted room = absurd fit
row_goes [] [] [] T R bs P Q c are high fit h e counted room =
    let none = none_appended P Q bs e in
    let count : c + 8 * length bs ≡ c = ap (λ x. c + 8 * length x) (sym none.0) ∙ omega arith in
    let taken : T ++ bs ≡ T = ap (λ x. T ++ x) (sym none.0) ∙ append-nil T in
    let left : drop (length bs) R ≡ R = ap (λ x. drop (length x) R) (sym none.0) in
    rw (taken, left, ← none.1, count) Answered
row_goes (f ∷ fs) (s ∷ ss) (n ∷ ns) T R bs P Q c are high fit h e counted room =
    let a : List Bool = value_bits s.width n in
    let b : List Bool = row_bits ss ns in
    let xs : List ℕ = (append Msb0 a P).bytes in
    let M : Pending = (append Msb0 a P).pending in
    let ys : List ℕ = (append Msb0 b M).bytes in
    let both = two_appended a b P Q bs h e in
    let long : length xs + length ys ≡ length bs = sym (length-append xs ys) ∙ ap length both.0 in
    let first = value_goes f n s T R P c are.0 (All-head IsHigh f fs high) fit.0 (omega (arith, counted, long)) (omega (arith, room, long)) in
    let others = row_goes fs ss ns (T ++ xs) (drop (length xs) R) ys M (append Msb0 b M).pending (c + 8 * length xs) are.1 (All-tail IsHigh f fs high) fit.1 (meets_after a P h) refl
    (omega (arith, counted, long)) (omega (arith, room, long, length-drop (length xs) R)) in
    Second tt (Going (sink_at (T ++ xs) (drop (length xs) R) M) (c + 8 * length xs)) first
    (subst (λ u. WritesItems (items fs ns) false (Going (sink_at (T ++ xs) (drop (length xs) R) M) (c + 8 * length xs)) (Ok tt) u) (end_is T R xs ys bs (append Msb0 b M).pending Q c both.0 both.1) others)

-- ---- whole bytes
emitted_bytes : (bs : List ℕ) → All IsByte bs → emitted Msb0 (flow Msb0 bs) ≡ bs
emitted_bytes [] h = emitted-short Msb0 [] (omega arith)
emitted_bytes (b ∷ bs) h =
    emitted-full Msb0 (byte_bits b) (flow Msb0 bs) (length-byte_bits b)
    ∙ ap₂ (λ x y. x ∷ y) (byte-of Msb0 b (All-head IsByte b bs h)) (emitted_bytes bs (All-tail IsByte b bs h))

rest_bytes : (bs : List ℕ) → remainder (flow Msb0 bs) ≡ []
rest_bytes [] = remainder-short [] (omega arith)
rest_bytes (b ∷ bs) = remainder-full (byte_bits b) (flow Msb0 bs) (length-byte_bits b) ∙ rest_bytes bs

whole_appended : (bs : List ℕ) → All IsByte bs → append Msb0 (bits_in bs) Nothing ≡ record { bytes = bs; pending = Nothing }
unfolding shown append
whole_appended [] h = refl
whole_appended (b ∷ bs) h =
    let some : 0 < length (flow Msb0 (b ∷ bs)) = omega (arith, length-flow Msb0 (b ∷ bs)) in
    append_is Msb0 (flow Msb0 (b ∷ bs)) Nothing some refl
    ∙ ap₂ (λ x y. record { bytes = x; pending = held Msb0 y }) (emitted_bytes (b ∷ bs) h) (rest_bytes (b ∷ bs))

nothing_padded : (T R : List ℕ) (c : ℕ) → c < 2 ^ 64 → Finalizes false (Going (sink_at T R Nothing) c) (Ok tt) (Going (sink_at T R Nothing) c)
unfolding padded
nothing_padded T R c counted =
    let count : c ≡ c + 8 * 0 = omega arith in
    inr (omega (arith, counted), inl (sink_at T R Nothing, record { taken = sym (append-nil T); room = (omega arith, refl); pending = refl }, refl, ap (Going (sink_at T R Nothing)) count))

-- ---- steps of records
steps_append : (fs gs : List Field) (ss ts : List Step) → AreSteps fs ss → AreSteps gs ts → AreSteps (fs ++ gs) (ss ++ ts)
steps_append [] gs [] ts h k = k
steps_append [] gs (s ∷ ss) ts h k = absurd h
steps_append (f ∷ fs) gs [] ts h k = absurd h
steps_append (f ∷ fs) gs (s ∷ ss) ts h k = (h.0, steps_append fs gs ss ts h.1 k)

steps_turns : (count : ℕ) (fs : List Field) (ss : List Step) → AreSteps fs ss → AreSteps (records count fs) (turns count ss)
steps_turns zero fs ss h = tt
steps_turns (suc count) fs ss h = steps_append fs (records count fs) ss (turns count ss) h (steps_turns count fs ss h)

-- ---- over a slice
module _ (fs : List Field) (ss : List Step) (ns : List Number) (count n : ℕ) (old new : List ℕ) where
  pub laid_over : AreSteps fs ss → All IsHigh fs → AreFitting (turns count ss) ns → 8 * n < 2 ^ 64 → n ≤ length old → length new ≡ length old → All IsByte new
      → bits_in (take n new) ≡ row_bits (turns count ss) ns → drop n new ≡ drop n old → WritesOver (Both (WritesItems (items (records count fs) ns)) Finalizes) old (Ok n) new
  laid_over are high fit counted within same small bits rest =
      let B : List ℕ = take n new in
      let long : length B ≡ n = length-take-le n new (omega (arith, within, same)) in
      let written : append Msb0 (row_bits (turns count ss) ns) Nothing ≡ record { bytes = B; pending = Nothing } =
      ap (λ s. append Msb0 s Nothing) (sym bits) ∙ whole_appended B (All-take IsByte n new small) in
      let rows = row_goes (records count fs) (turns count ss) ns [] old B Nothing Nothing 0 (steps_turns count fs ss are) (all_records IsHigh fs count high) fit refl written
      (omega (arith, long, counted)) (omega (arith, long, within)) in (
        sink_at B (drop (length B) old) Nothing,
        0 + 8 * length B,
        Second tt (Going (sink_at B (drop (length B) old) Nothing) (0 + 8 * length B)) rows (nothing_padded B (drop (length B) old) (0 + 8 * length B) (omega (arith, long, counted))),
        sym (before n new (omega (arith, within, same))),
        ap Some (ap (λ k. drop k old) long ∙ sym rest),
      )
    where
      before : (n : ℕ) (bytes : List ℕ) → n ≤ length bytes → bytes_before n bytes ≡ Some (take n bytes)
      before n bytes h = rw (le-leb n (length bytes) h) refl
