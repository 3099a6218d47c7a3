-- Frames are symmetric, by the laws of their parts. This is here, and not among the proofs, since
-- the law of an implementation may use nothing else of its own crate.
use Rattle.std.proofs.Common.{◌≡◌, ℕ, false, List, Option, Some, Ok, refl, ap, ap₂, sym, ◌∙◌, subst, pos}
use Rattle.std.specs.Global.{Vec}
use Rattle.deku_bits.specs.Streams.{Stream}
use Rattle.deku_bits.specs.Pieces.{Piece}
use Rattle.deku_bits.specs.Standings.{Standing, Going, Output}
use Rattle.deku_bits.specs.Outcomes.{Meaning, Mapped}
use Rattle.deku_num.specs.declared.ctx.Size.TheVariants.{Whole, Bits}
use Rattle.deku_num.specs.Numbers.{byte, unsigned}
use Rattle.deku_num.specs.NumberCalls.{Refused, Passed, ReadsUnsigned, WritesNumber}
use Rattle.deku.specs.Composing.{Then, Both, PairOf, WritesEach}
use Rattle.deku_pieces.specs.Symmetric.{IsWrittenAs, IsReadBack, TakenAs, IsSymmetric}
use Rattle.deku_pieces.specs.Pieces.{OfUnsigned, OfTimes, InTurn, SameEach, high_first}
use Rattle.deku_pieces.proofs.Numbers.{unsigned_symmetric}
use Rattle.deku_pieces.proofs.Tuples.{pair_symmetric}
use Rattle.deku_pieces.proofs.UnderCount.{counted_symmetric, holder_symmetric}
use Rattle.deku_pieces.proofs.Answering.{no_refusal}
use Rattle.deku_pieces.proofs.Chosen.{not_above, chosen_symmetric, variant_back, variant_read}
use Rattle.deku_frame.specs.declared.frame.Frame.{Frame}
use Rattle.deku_frame.specs.declared.frame.Frame.TheVariants.{Ping, Data, Pair}
use Rattle.deku_frame.specs.Frames.{head_of, OfHead, OfBody, OfFrame, SameFrame, ReadsHead, ReadsPayload, ReadsBody, OtherVersion, OtherId, IsPing, IsData, IsPair, ReadsFrame, WritesHead, WritesBody, WritesFrame, IsInStep}

-- ---- the parts
-- The same bytes, wherever they are in memory.
abbrev SameBytes : Vec ℕ → Vec ℕ → Type 0
SameBytes v w = SameEach (λ x y. x ≡ y) v.items w.items

-- Bytes are written, one by one.
abbrev WritesBytes : Vec ℕ → Meaning Output (Unit {0})
WritesBytes v = WritesEach (λ b. WritesNumber byte (high_first Whole) (pos b)) v.items

-- The pieces of n bytes.
abbrev OfBytes : ℕ → Vec ℕ → List Piece → Type 0
OfBytes n v = OfTimes n (OfUnsigned byte (high_first Whole)) v.items

payload_symmetric : (n : ℕ) → IsSymmetric (OfBytes n) SameBytes WritesBytes (ReadsPayload n)
payload_symmetric n = holder_symmetric (λ v. v.items) _ _ _ _ (counted_symmetric _ _ _ _ (unsigned_symmetric byte (high_first Whole)) n)

head_symmetric : IsSymmetric OfHead (λ g h. (g.0 ≡ h.0) × (g.1 ≡ h.1)) WritesHead ReadsHead
head_symmetric = pair_symmetric (unsigned_symmetric byte (high_first (Bits 4))) (unsigned_symmetric byte (high_first (Bits 4)))

-- ---- a length and as many bytes
-- A length, and bytes.
abbrev Sized : Type 0
Sized = ℕ × Vec ℕ

-- The same length and the same bytes.
abbrev SameSized : Sized → Sized → Type 0
SameSized p q = (p.0 ≡ q.0) × SameBytes p.1 q.1

-- The pieces of bytes under their length. Under another length they have none.
abbrev Under : ℕ → Sized → List Piece → Type 0
Under n p ps = (p.0 ≡ n) × OfBytes p.0 p.1 ps

sized_fields : (n : ℕ) (p : Sized) (ps : List Piece) → Under n p ps → (v : Vec ℕ) × (◌≡◌ {A = Sized} (n, v) p) × OfBytes n v ps
sized_fields n p ps h = (p.1, ap (λ k. (k, p.1)) (sym h.0), subst (λ k. OfBytes k p.1 ps) (h.0) h.1)

bytes_symmetric : (n : ℕ) → IsSymmetric (Under n) SameSized (λ p. WritesBytes p.1) (Mapped (λ v. (n, v)) (ReadsPayload n))
bytes_symmetric n = record {
  one = λ p ps qs h k. (payload_symmetric p.0).one p.1 ps qs h.1 k.1;
  written = λ p ps h. (payload_symmetric p.0).written p.1 ps h.1;
  read_back = variant_back (λ v. (n, v)) (OfBytes n) SameBytes WritesBytes (ReadsPayload n) (payload_symmetric n) (Under n) SameSized (sized_fields n) (λ v ps h. (refl, h)) (λ v w f. (refl, f));
  read = variant_read (λ v. (n, v)) (OfBytes n) SameBytes WritesBytes (ReadsPayload n) (payload_symmetric n) (Under n) SameSized (sized_fields n) (λ v ps h. (refl, h)) (λ v w f. (refl, f));
}

sized_symmetric : IsSymmetric (λ p. InTurn (OfUnsigned byte (high_first Whole) p.0) (OfBytes p.0 p.1)) SameSized (λ p. Both (WritesNumber byte (high_first Whole) (pos p.0)) (WritesBytes p.1))
    (Then (ReadsUnsigned byte (high_first Whole)) (λ n. Mapped (λ v. (n, v)) (ReadsPayload n)))
sized_symmetric = chosen_symmetric (λ p. p.0) _ _ _ _ (λ v w e. e) (unsigned_symmetric byte (high_first Whole)) (λ p. OfBytes p.0 p.1) SameSized (λ p. WritesBytes p.1) _ bytes_symmetric

-- ---- the variants
-- A frame of a variant, and the pieces of its fields.
abbrev Named : {V : Type 0} → (V → Frame) → (V → List Piece → Type 0) → Frame → List Piece → Type 0
Named {V} f P x ps = (v : V) × (f v ≡ x) × P v ps

module _ {V : Type 0} (f : V → Frame) (P : V → List Piece → Type 0) (same : V → V → Type 0) (writes : V → Meaning Output (Unit {0})) (m : Meaning (Option Stream) V)
    (A : IsSymmetric P same writes m) (alike : (v w : V) → same v w → SameFrame (f v) (f w)) where
  named_back : (v : V) (ps : List Piece) → P v ps → IsReadBack ps (SameFrame (f v)) (Mapped f m)
  named_back v ps p = variant_back f P same writes m A (Named f P) SameFrame (λ x qs q. q) (λ w qs h. (w, refl, h)) alike (f v) ps (v, refl, p)

  named_read : (x : Frame) (S : Stream) (n : ℕ) (u : Standing (Option Stream)) → Mapped f m false (Going (Some S) n) (Ok x) u → TakenAs (Named f P) x S n u
  named_read = variant_read f P same writes m A (Named f P) SameFrame (λ x qs q. q) (λ w qs h. (w, refl, h)) alike

ping_symmetric : IsSymmetric (OfUnsigned (unsigned 16) (high_first Whole)) (λ v w. v ≡ w) (λ v. WritesNumber (unsigned 16) (high_first Whole) (pos v)) (ReadsUnsigned (unsigned 16) (high_first Whole))
ping_symmetric = unsigned_symmetric (unsigned 16) (high_first Whole)

halves_symmetric : IsSymmetric (λ p. InTurn (OfUnsigned byte (high_first (Bits 5)) p.0) (OfUnsigned (unsigned 16) (high_first (Bits 11)) p.1)) (λ p q. (p.0 ≡ q.0) × (p.1 ≡ q.1))
    (λ p. Both (WritesNumber byte (high_first (Bits 5)) (pos p.0)) (WritesNumber (unsigned 16) (high_first (Bits 11)) (pos p.1)))
    (PairOf (ReadsUnsigned byte (high_first (Bits 5))) (ReadsUnsigned (unsigned 16) (high_first (Bits 11))))
halves_symmetric = pair_symmetric (unsigned_symmetric byte (high_first (Bits 5))) (unsigned_symmetric (unsigned 16) (high_first (Bits 11)))

-- ---- after the id and the version
-- The pieces of a frame's fields under its own id and version. Under others it has none.
abbrev OfBodyUnder : ℕ × ℕ → Frame → List Piece → Type 0
OfBodyUnder h x ps = (head_of x ≡ h) × OfBody x ps

body_one : (x : Frame) (ps qs : List Piece) → OfBody x ps → OfBody x qs → qs ≡ ps
body_one (Ping t) ps qs p q = ping_symmetric.one t ps qs p q
body_one (Data n v) ps qs p q = sized_symmetric.one (n, v) ps qs p q
body_one (Pair l r) ps qs p q = halves_symmetric.one (l, r) ps qs p q

body_written : (x : Frame) (ps : List Piece) → OfBody x ps → IsWrittenAs ps (WritesBody x)
body_written (Ping t) ps p b s r u m = ping_symmetric.written t ps p b s r u m
body_written (Data n v) ps p b s r u m = sized_symmetric.written (n, v) ps p b s r u m
body_written (Pair k l) ps p b s r u m = halves_symmetric.written (k, l) ps p b s r u m

first_of : (g h : ℕ × ℕ) → g ≡ h → g.0 ≡ h.0
first_of g h e = ap (λ y. y.0) e

body_back : (h : ℕ × ℕ) (x : Frame) (ps : List Piece) → OfBodyUnder h x ps → IsReadBack ps (SameFrame x) (ReadsBody h)
body_back h x ps q S T n r u takes room (OtherVersion b wrong k) = absurd (wrong (ap (λ y. y.1) (sym q.0)))
body_back h (Ping t) ps q S T n r u takes room (OtherId b a1 a2 a3 e f) = absurd (a1 (first_of h (1, 1) (sym q.0)))
body_back h (Data k v) ps q S T n r u takes room (OtherId b a1 a2 a3 e f) = absurd (a2 (first_of h (2, 1) (sym q.0)))
body_back h (Pair k l) ps q S T n r u takes room (OtherId b a1 a2 a3 e f) = absurd (a3 (first_of h (3, 1) (sym q.0)))
body_back h (Ping t) ps q S T n r u takes room (IsPing e m) = named_back Ping _ _ _ _ ping_symmetric (λ v w f. f) t ps q.1 S T n r u takes room m
body_back h (Data k v) ps q S T n r u takes room (IsPing e m) = absurd (not_above 1 0 (sym (first_of (2, 1) (1, 1) (q.0 ∙ e))))
body_back h (Pair k l) ps q S T n r u takes room (IsPing e m) = absurd (not_above 1 1 (sym (first_of (3, 1) (1, 1) (q.0 ∙ e))))
body_back h (Ping t) ps q S T n r u takes room (IsData e m) = absurd (not_above 1 0 (first_of (1, 1) (2, 1) (q.0 ∙ e)))
body_back h (Data k v) ps q S T n r u takes room (IsData e m) = named_back (λ (p : Sized). Data p.0 p.1) _ _ _ _ sized_symmetric (λ v w f. f) (k, v) ps q.1 S T n r u takes room m
body_back h (Pair k l) ps q S T n r u takes room (IsData e m) = absurd (not_above 2 0 (sym (first_of (3, 1) (2, 1) (q.0 ∙ e))))
body_back h (Ping t) ps q S T n r u takes room (IsPair e m) = absurd (not_above 1 1 (first_of (1, 1) (3, 1) (q.0 ∙ e)))
body_back h (Data k v) ps q S T n r u takes room (IsPair e m) = absurd (not_above 2 0 (first_of (2, 1) (3, 1) (q.0 ∙ e)))
body_back h (Pair k l) ps q S T n r u takes room (IsPair e m) = named_back (λ (p : ℕ × ℕ). Pair p.0 p.1) _ _ _ _ halves_symmetric (λ v w f. f) (k, l) ps q.1 S T n r u takes room m

behind_taken : {V : Type 0} (f : V → Frame) (P : V → List Piece → Type 0) (h : ℕ × ℕ) (x : Frame) (S : Stream) (n : ℕ) (u : Standing (Option Stream))
    → ((v : V) (ps : List Piece) → P v ps → OfBodyUnder h (f v) ps) → TakenAs (Named f P) x S n u → TakenAs (OfBodyUnder h) x S n u
behind_taken f P h x S n u to a =
    let k = a.has in
    record { taken = a.taken; has = subst (λ y. OfBodyUnder h y a.taken) k.1 (to k.0 a.taken k.2); rest = a.rest; takes = a.takes; stands = a.stands }

body_read : (h : ℕ × ℕ) (x : Frame) (S : Stream) (n : ℕ) (u : Standing (Option Stream)) → ReadsBody h false (Going (Some S) n) (Ok x) u → TakenAs (OfBodyUnder h) x S n u
body_read h x S n u (OtherVersion b wrong k) = absurd (no_refusal x _ k.2)
body_read h x S n u (OtherId b a1 a2 a3 e f) = absurd (no_refusal x _ e)
body_read h x S n u (IsPing e m) = behind_taken Ping _ h x S n u (λ v ps p. (sym e, p)) (named_read Ping _ _ _ _ ping_symmetric (λ v w f. f) x S n u m)
body_read h x S n u (IsData e m) = behind_taken (λ (p : Sized). Data p.0 p.1) _ h x S n u (λ v ps p. (sym e, p)) (named_read (λ (p : Sized). Data p.0 p.1) _ _ _ _ sized_symmetric (λ v w f. f) x S n u m)
body_read h x S n u (IsPair e m) = behind_taken (λ (p : ℕ × ℕ). Pair p.0 p.1) _ h x S n u (λ v ps p. (sym e, p)) (named_read (λ (p : ℕ × ℕ). Pair p.0 p.1) _ _ _ _ halves_symmetric (λ v w f. f) x S n u m)

body_symmetric : (h : ℕ × ℕ) → IsSymmetric (OfBodyUnder h) SameFrame WritesBody (ReadsBody h)
body_symmetric h = record {
  one = λ x ps qs p q. body_one x ps qs p.1 q.1;
  written = λ x ps p. body_written x ps p.1;
  read_back = body_back h;
  read = body_read h;
}

-- ---- the whole
plain_symmetric : IsSymmetric OfFrame SameFrame (λ f. Both (WritesHead (head_of f)) (WritesBody f)) ReadsFrame
plain_symmetric = chosen_symmetric head_of _ _ _ _ (λ g h e. ap₂ (λ a b. (a, b)) e.0 e.1) head_symmetric OfBody SameFrame WritesBody ReadsBody body_symmetric

in_step : (f : Frame) (ps : List Piece) → OfBody f ps → IsInStep f
in_step (Ping t) ps p = tt
in_step (Data n v) ps (a, b, p, q, e) = q.0
in_step (Pair k l) ps p = tt

frame_written : (f : Frame) (ps : List Piece) → OfFrame f ps → IsWrittenAs ps (WritesFrame f)
frame_written f ps (a, b, p, q, e) w s r u (Refused c wrong) = absurd (wrong.0 (in_step f b q))
frame_written f ps p w s r u (Passed m) = plain_symmetric.written f ps p w s r u m.1

-- Frames are symmetric.
pub frame_symmetric : IsSymmetric OfFrame SameFrame WritesFrame ReadsFrame
frame_symmetric = record { one = plain_symmetric.one; written = frame_written; read_back = plain_symmetric.read_back; read = plain_symmetric.read }
