-- Texts that end with a zero are symmetric.
use Rattle.std.proofs.Common.{◌≡◌, ◌≢◌, ℕ, ◌+◌, ◌<◌, ◌^◌, false, List, [], ◌∷◌, ◌++◌, Option, Some, Result, Ok, Err, pos, refl, ap, sym, ◌∙◌, subst, inl, inr, arith, append-nil, append_assoc, length-append}
use Rattle.std.proofs.lemmas.List.Elements.{All-head, All-tail}
use Rattle.std.specs.declared.io.ErrorKind.TheVariants.{OutOfMemory}
use Rattle.deku_bits.specs.declared.error.DekuError.{DekuError}
use Rattle.deku_bits.specs.declared.error.DekuError.TheVariants.{Io}
use Rattle.deku_bits.specs.Streams.{Stream}
use Rattle.deku_bits.specs.Pieces.{Piece}
use Rattle.deku_bits.specs.Symmetry.{Takes}
use Rattle.deku_bits.specs.Standings.{Standing, Going, Output}
use Rattle.deku_bits.specs.Outcomes.{Meaning}
use Rattle.deku_num.specs.Numbers.{byte}
use Rattle.deku_num.specs.NumberCalls.{WritesNumber}
use Rattle.deku.specs.Composing.{Then, Second, First, Both, WritesEach}
use Rattle.deku.specs.Lists as lists
use Rattle.deku.specs.Lists.{AnswersEach, Runs, Stored, Until}
use Rattle.deku.specs.Texts.{NoZeros, IsTerminated, Unended, Text, NoText, ReadsTerminated}
use Rattle.deku_pieces.specs.Symmetric.{breadth, IsWrittenAs, IsReadBack, TakenAs, IsSymmetric}
use Rattle.deku_pieces.specs.Pieces.{OfUnsigned, InTurn, OfEach, OfTerminated, OfText, plain}
use Rattle.deku_pieces.proofs.Answering.{ok_is}
use Rattle.deku_pieces.proofs.Turns.{breadth-append, takes_apart, written_together}
use Rattle.deku_pieces.proofs.Times.{each_one, each_written}
use Rattle.deku_pieces.proofs.UnderCount.{next_back, next_refused, each_read}
use Rattle.deku_pieces.proofs.Numbers.{unsigned_symmetric}

no_memory : (e d : DekuError) (r : Result (List ℕ) DekuError) → r ≡ Err e → e ≡ d → r ≡ Err d
no_memory e d r p q = p ∙ ap (λ x. Err x) q

module _ (P : ℕ → List Piece → Type 0) (writes : ℕ → Meaning Output (Unit {0})) (m : Meaning (Option Stream) ℕ) (A : IsSymmetric P (λ v w. v ≡ w) writes m) where
  -- the pieces of items, and those of the last one
  last_apart : (vs : List ℕ) (z : ℕ) (ps : List Piece) → OfEach P (vs ++ z ∷ []) ps → InTurn (OfEach P vs) (P z) ps
  last_apart [] z ps (x, y, p, q, e) = ([], x, refl, p, e ∙ ap (λ k. x ++ k) q ∙ append-nil x)
  last_apart (v ∷ vs) z ps (x, y, p, q, e) =
      let k = last_apart vs z y q in
      (x ++ k.0, k.1, (x, k.0, p, k.2, refl), k.3, e ∙ ap (λ i. x ++ i) k.4 ∙ sym (append_assoc x k.0 k.1))

  ended_one : (vs : List ℕ) (ps qs : List Piece) → OfTerminated P vs ps → OfTerminated P vs qs → qs ≡ ps
  ended_one vs ps qs p q = each_one P _ writes m A (vs ++ 0 ∷ []) ps qs p.1 q.1

  ended_written : (vs : List ℕ) (ps : List Piece) → OfTerminated P vs ps → IsWrittenAs ps (Both (WritesEach writes vs) (writes 0))
  ended_written vs ps p =
      let k = last_apart vs 0 ps p.1 in
      subst (λ y. IsWrittenAs y (Both (WritesEach writes vs) (writes 0))) (sym k.4)
      (written_together k.0 k.1 (WritesEach writes vs) (writes 0) (each_written P _ writes m A vs k.0 k.2) (A.written 0 k.1 k.3))

  -- ---- read back
  none_behind : (ps : List Piece) (y : List Piece) (S T : Stream) → y ≡ [] → Takes y S T → (S ≡ T) × (breadth y ≡ 0)
  none_behind ps y S T e t = (rw e at t, ap breadth e)

  -- a text that is read is the one whose pieces are taken
  texts_back : (vs ws : List ℕ) (ps : List Piece) (S T : Stream) (c : ℕ) (u : Standing (Option Stream)) → NoZeros vs → NoZeros ws → OfEach P (vs ++ 0 ∷ []) ps → Takes ps S T
      → c + breadth ps < 2 ^ 64 → AnswersEach (Stored m) (ws ++ 0 ∷ []) (Going (Some S) c) u → (vs ≡ ws) × (u ≡ Going (Some T) (c + breadth ps))
  texts_back [] [] ps S T c u f g (x, y, p, q, e) takes room (t, stored, turn) =
      let wide : breadth ps ≡ breadth x + breadth y = ap breadth e ∙ breadth-append x y in
      let cut = takes_apart x y S T (rw e at takes) in
      let it = next_back P _ writes m A 0 x S cut.0 c 0 t p cut.1 (omega (arith, room, wide)) stored in
      let end = none_behind ps y cut.0 T q cut.2 in
      let count : c + breadth x ≡ c + breadth ps = omega (arith, wide, end.1) in
      (refl, turn ∙ it.1 ∙ ap (λ i. Going (Some i) (c + breadth x)) end.0 ∙ ap (λ i. Going (Some T) i) count)
  texts_back [] (w ∷ ws) ps S T c u f g (x, y, p, q, e) takes room (t, stored, turn) =
      let wide : breadth ps ≡ breadth x + breadth y = ap breadth e ∙ breadth-append x y in
      let cut = takes_apart x y S T (rw e at takes) in
      let it = next_back P _ writes m A 0 x S cut.0 c w t p cut.1 (omega (arith, room, wide)) stored in
      absurd (All-head (λ (b : ℕ). b ≢ 0) w ws g (sym it.0))
  texts_back (v ∷ vs) [] ps S T c u f g (x, y, p, q, e) takes room (t, stored, turn) =
      let wide : breadth ps ≡ breadth x + breadth y = ap breadth e ∙ breadth-append x y in
      let cut = takes_apart x y S T (rw e at takes) in
      let it = next_back P _ writes m A v x S cut.0 c 0 t p cut.1 (omega (arith, room, wide)) stored in
      absurd (All-head (λ (b : ℕ). b ≢ 0) v vs f it.0)
  texts_back (v ∷ vs) (w ∷ ws) ps S T c u f g (x, y, p, q, e) takes room (t, stored, turn) =
      let wide : breadth ps ≡ breadth x + breadth y = ap breadth e ∙ breadth-append x y in
      let cut = takes_apart x y S T (rw e at takes) in
      let it = next_back P _ writes m A v x S cut.0 c w t p cut.1 (omega (arith, room, wide)) stored in
      let k = texts_back vs ws y cut.0 T (c + breadth x) u (All-tail (λ (b : ℕ). b ≢ 0) v vs f) (All-tail (λ (b : ℕ). b ≢ 0) w ws g) q cut.2 (omega (arith, room, wide))
      (subst (λ s. AnswersEach (Stored m) (ws ++ 0 ∷ []) s u) it.1 turn) in
      let count : c + breadth x + breadth y ≡ c + breadth ps = omega (arith, wide) in
      (ap (λ i. i ∷ vs) it.0 ∙ ap (λ i. w ∷ i) k.0, k.1 ∙ ap (λ i. Going (Some T) i) count)

  -- a refusal after some bytes of it is lack of memory
  texts_refused : (vs ws : List ℕ) (ps : List Piece) (S T : Stream) (c : ℕ) (t u : Standing (Option Stream)) (d : DekuError) → NoZeros ws → OfEach P (vs ++ 0 ∷ []) ps → Takes ps S T
      → c + breadth ps < 2 ^ 64 → AnswersEach (Stored m) ws (Going (Some S) c) t → Stored m false t (Err d) u → d ≡ Io OutOfMemory
  texts_refused vs [] ps S T c t u d g are takes room turn refusal =
      next_refused P _ writes m A (vs ++ 0 ∷ []) ps S T c d u (omega (arith, length-append vs (0 ∷ []))) are takes room (subst (λ s. Stored m false s (Err d) u) turn refusal)
  texts_refused [] (w ∷ ws) ps S T c t u d g (x, y, p, q, e) takes room (k, stored, turn) refusal =
      let wide : breadth ps ≡ breadth x + breadth y = ap breadth e ∙ breadth-append x y in
      let cut = takes_apart x y S T (rw e at takes) in
      let it = next_back P _ writes m A 0 x S cut.0 c w k p cut.1 (omega (arith, room, wide)) stored in
      absurd (All-head (λ (b : ℕ). b ≢ 0) w ws g (sym it.0))
  texts_refused (v ∷ vs) (w ∷ ws) ps S T c t u d g (x, y, p, q, e) takes room (k, stored, turn) refusal =
      let wide : breadth ps ≡ breadth x + breadth y = ap breadth e ∙ breadth-append x y in
      let cut = takes_apart x y S T (rw e at takes) in
      let it = next_back P _ writes m A v x S cut.0 c w k p cut.1 (omega (arith, room, wide)) stored in
      texts_refused vs ws y cut.0 T (c + breadth x) t u d (All-tail (λ (b : ℕ). b ≢ 0) w ws g) q cut.2 (omega (arith, room, wide)) (subst (λ s. AnswersEach (Stored m) ws s t) it.1 turn) refusal

  abbrev ReadsText : Meaning (Option Stream) (List ℕ)
  ReadsText = Then (Runs NoZeros (λ bytes. (text : List ℕ) × IsTerminated text bytes) (Stored m)) Unended

  -- bytes that are a text and a zero are that text
  shown_text : (vs bytes : List ℕ) (s u : Standing (Option Stream)) (r : Result (List ℕ) DekuError) → IsTerminated vs bytes → Unended bytes false s r u → (text : List ℕ) × (r ≡ Ok text) × (u ≡ s) × IsTerminated text bytes
  shown_text vs bytes s u r is (Text text e) = (text, refl, refl, e)
  shown_text vs bytes s u r is (NoText none f) = absurd (none vs is)

  ended_back : (vs : List ℕ) (ps : List Piece) → OfTerminated P vs ps → IsReadBack ps (λ w. vs ≡ w) ReadsText
  ended_back vs ps p S T c r u takes room (First d (Until ws turn k b e) q) = absurd (cc)
  ended_back vs ps p S T c r u takes room (First d (lists.NextRefused ws t x turn none refusal e) q) =
      let same : x ≡ d = err_is d x e in
      inr (q ∙ ap (λ i. Err i) (sym same ∙ texts_refused vs ws ps S T c t u x none p.1 takes room turn refusal))
    where
      err_is : (a b : DekuError) → ◌≡◌ {A = Result (List ℕ) DekuError} (Err a) (Err b) → b ≡ a
      err_is a b h = cc
  ended_back vs ps p S T c r u takes room (Second bytes t (lists.NextRefused ws k x turn none refusal e) q) = absurd (cc)
  ended_back vs ps p S T c r u takes room (Second bytes t (Until ws turn (text, (none, is)) b e) q) =
      let same : bytes ≡ ws = ok_is bytes ws e in
      let k = texts_back vs text ps S T c t p.0 none p.1 takes room (subst (λ i. AnswersEach (Stored m) i (Going (Some S) c) t) is turn) in
      let it = shown_text text bytes t u r (none, same ∙ is) q in
      let again = texts_back vs it.0 ps S T c t p.0 it.3.0 p.1 takes room (subst (λ i. AnswersEach (Stored m) i (Going (Some S) c) t) (sym same ∙ it.3.1) turn) in
      inl (it.0, again.0, it.1, it.2 ∙ k.1)

  -- ---- what is read
  ended_read : (vs : List ℕ) (S : Stream) (c : ℕ) (u : Standing (Option Stream)) → ReadsText false (Going (Some S) c) (Ok vs) u → TakenAs (OfTerminated P) vs S c u
  ended_read vs S c u (First d k q) = absurd (cc)
  ended_read vs S c u (Second bytes t (lists.NextRefused ws k x turn none refusal e) q) = absurd (cc)
  ended_read vs S c u (Second bytes t (Until ws turn (text, (none, is)) b e) q) =
      let same : bytes ≡ ws = ok_is bytes ws e in
      let it = shown_text text bytes t u (Ok vs) (none, same ∙ is) q in
      let all : vs ≡ it.0 = ok_is vs it.0 it.1 in
      let a = each_read P _ writes m A (vs ++ 0 ∷ []) S c u
      (subst (λ i. AnswersEach (Stored m) (i ++ 0 ∷ []) (Going (Some S) c) u) (sym all)
      (subst (λ i. AnswersEach (Stored m) i (Going (Some S) c) u) (sym same ∙ it.3.1) (subst (λ i. AnswersEach (Stored m) ws (Going (Some S) c) i) (sym it.2) turn))) in
      record { taken = a.taken; has = (subst NoZeros (sym all) it.3.0, a.has); rest = a.rest; takes = a.takes; stands = a.stands }

  pub ended_symmetric : IsSymmetric (OfTerminated P) (λ v w. v ≡ w) (λ vs. Both (WritesEach writes vs) (writes 0)) ReadsText
  ended_symmetric = record { one = ended_one; written = ended_written; read_back = ended_back; read = ended_read }

pub text_symmetric : IsSymmetric OfText (λ v w. v ≡ w) (λ text. Both (WritesEach (λ b. WritesNumber byte plain (pos b)) text) (WritesNumber byte plain (pos 0))) ReadsTerminated
text_symmetric = ended_symmetric (OfUnsigned byte plain) (λ b. WritesNumber byte plain (pos b)) _ (unsigned_symmetric byte plain)
