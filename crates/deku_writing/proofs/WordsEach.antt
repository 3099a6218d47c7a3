-- The word of items in a row.
use Rattle.std.proofs.Common.{◌≡◌, ℕ, ◌+◌, ◌<◌, ◌≤◌, false, List, [], ◌∷◌, ◌++◌, length, get_or, take, Ok, sym, ap, ◌∙◌, subst, arith}
use Rattle.std.proofs.lemmas.List.{take_all, take_more}
use Rattle.deku_bits.specs.declared.ctx.Order.{Order}
use Rattle.deku_bits.specs.Standings.{Standing, Output}
use Rattle.deku_bits.specs.Outcomes.{Meaning}
use Rattle.deku_meanings.specs.Composing.{Both, Answered, Second, First}
use Rattle.deku_writing.specs.Composing.{WritesEach}
use Rattle.deku_writing.specs.declared.words.Word.{Word}
use Rattle.deku_writing.specs.Words.{IsWordOf, IsJoined}
use Rattle.deku_writing.proofs.WordsJoined.{both_joined}
use Rattle.deku_writing.proofs.WritingEach.{each_then}

-- a word of what one meaning writes is one of what another writes that allows the same
word_too : {m n : Meaning Output (Unit {0})} (o : Order) (w : Word) → ((s u : Standing Output) → m false s (Ok tt) u → n false s (Ok tt) u) → IsWordOf m o w → IsWordOf n o w
word_too o w h p = record { word = p.word; writes = λ fits s u follows writes. h s u (p.writes fits s u follows writes) }

module _ {V : Type 0} (o : Order) (m : V → Meaning Output (Unit {0})) where
  -- items, and then one
  then_one : (vs : List V) (v : V) (s u : Standing Output) → Both (WritesEach m vs) (m v) false s (Ok tt) u → WritesEach m (vs ++ v ∷ []) false s (Ok tt) u
  then_one vs v s u (Second x t p q) = each_then m vs (v ∷ []) false s t (Ok tt) u p (Second tt u q Answered)
  then_one vs v s u (First e p is) = absurd (cc)

  one_alone : (v : V) (s u : Standing Output) → m v false s (Ok tt) u → WritesEach m (v ∷ []) false s (Ok tt) u
  one_alone v s u p = Second tt u p Answered

  -- the items up to a place, and the one there
  up_to : (vs : List V) (i : ℕ) (v : V) → i < length vs → v ≡ get_or vs i v → take i vs ++ v ∷ [] ≡ take (i + 1) vs
  up_to vs i v l e = ap (λ x. take i vs ++ x ∷ []) e ∙ sym (take_more vs i v l)

  pub first_word : (vs : List V) (v : V) (w : Word) → 0 < length vs → v ≡ get_or vs 0 v → IsWordOf (m v) o w → IsWordOf (WritesEach m (take 1 vs)) o w
  first_word vs v w l e p = subst (λ xs. IsWordOf (WritesEach m xs) o w) (up_to vs 0 v l e) (word_too o w (one_alone v) p)

  pub next_word : (vs : List V) (i : ℕ) (v : V) (a b w : Word) → i < length vs → v ≡ get_or vs i v → IsWordOf (WritesEach m (take i vs)) o a → IsWordOf (m v) o b → IsJoined o a b w
      → IsWordOf (WritesEach m (take (i + 1) vs)) o w
  next_word vs i v a b w l e p q j = subst (λ xs. IsWordOf (WritesEach m xs) o w) (up_to vs i v l e) (word_too o w (then_one (take i vs) v) (both_joined o a b w p q j))

  pub all_words : (vs : List V) (i : ℕ) (w : Word) → length vs ≤ i → IsWordOf (WritesEach m (take i vs)) o w → IsWordOf (WritesEach m vs) o w
  all_words vs i w l p = subst (λ xs. IsWordOf (WritesEach m xs) o w) (take_all i vs l) p
