-- Bits that go out one after the other; ways through a list.
use Rattle.std.proofs.Common.{◌≡◌, ℕ, ◌+◌, ◌-◌, ◌*◌, ◌/◌, ◌%◌, ◌<◌, ◌≤◌, Bool, false, List, [], ◌∷◌, ◌++◌, length, get_or, take, drop, reverse, refl, sym, ap, ◌∙◌, append_assoc, append-nil, arith, length-append, subst, ⊎_elim}
use Rattle.std.proofs.Math.ListN.{get_or-append}
use Rattle.std.proofs.lemmas.Bool.{cases_lt}
use Rattle.std.proofs.lemmas.List.{take_more, take_all, take-append-drop, length-reverse, get_or-reverse, get_or-append_right}
use Rattle.std.specs.declared.io.ErrorKind.{ErrorKind}
use Rattle.deku_stream.specs.declared.ctx.Order.{Order}
use Rattle.deku_stream.specs.declared.ctx.Order.TheVariants.{Msb0, Lsb0}
use Rattle.deku_writer.specs.declared.writer.way.Way.{Way}
use Rattle.deku_writer.specs.declared.writer.way.Way.TheVariants.{Forward, Backward, TurnedBytes, BytesBackward}
use Rattle.deku_stream.specs.Bits.{group_number, facing, shown}
use Rattle.deku_stream.specs.Writers.{remainder}
use Rattle.deku_device.specs.Devices.{KnownSink, Gave}
use Rattle.deku_writer.specs.Pushing.{along, full_bytes, Fills, Pushed, GaveUp}
use Rattle.deku_stream.proofs.Binary.{length-facing}
use Rattle.deku_stream.proofs.Groups.{by_groups}
use Rattle.deku_stream.proofs.Cuts.{emitted, emitted-full, remainder-full, length-remainder, length-emitted}
use Rattle.deku_stream.proofs.Shown.{turned, turned-full, length-turned, shown_even, shown_odd}
use Rattle.deku_stream.proofs.Appends.{emitted-append, remainder-append}
use Rattle.deku_writer.proofs.Gives.{gave_up-after, gave_up-more}
use Rattle.deku_device.proofs.Transfers.{Gave-nil, Gave-trans}

-- ---- ways
pub length-along : (w : Way) (s : List Bool) → length (along w s) ≡ length s
length-along Forward s = refl
length-along Backward s = length-reverse s
length-along TurnedBytes s = length-turned s
length-along BytesBackward s = length-reverse (turned s) ∙ length-turned s

-- whole bytes, each reversed
pub turned_at : (s : List Bool) → length s % 8 ≡ 0 → (i : ℕ) → i < length s → get_or s (i / 8 * 8 + (7 - i % 8)) false ≡ get_or (turned s) i false
turned_at s = by_groups (λ s. length s % 8 ≡ 0 → (i : ℕ) → i < length s → get_or s (i / 8 * 8 + (7 - i % 8)) false ≡ get_or (turned s) i false)
    (λ w i h. absurd (omega arith))
    (λ s p l w i h. absurd (omega arith))
    (λ g t l ih w i h. rw (turned-full g t l) (⊎_elim
    (λ (e : i < 8).
    let place : i / 8 * 8 + (7 - i % 8) ≡ length g - 1 - i = omega arith in
    let here : i < length g = omega arith in
    let there : i < length (reverse g) = omega (arith, length-reverse g) in
    ap (λ k. get_or (g ++ t) k false) place ∙ get_or-append g t false (length g - 1 - i) (omega arith)
    ∙ sym (get_or-reverse g i false here) ∙ sym (get_or-append (reverse g) (turned t) false i there))
    (λ (e : 8 ≤ i).
    let n : length (g ++ t) ≡ length g + length t = length-append g t in
    let place : i / 8 * 8 + (7 - i % 8) - 8 ≡ (i - 8) / 8 * 8 + (7 - (i - 8) % 8) = omega arith in
    let far : 8 ≤ i / 8 * 8 + (7 - i % 8) = omega arith in
    get_or-append_right g t 8 (i / 8 * 8 + (7 - i % 8)) false l far ∙ ap (λ k. get_or t k false) place
    ∙ ih (omega arith) (i - 8) (omega arith) ∙ sym (get_or-append_right (reverse g) (turned t) 8 i false (length-reverse g ∙ l) e))
    (cases_lt i 8)))
    s

-- ---- what a read shows
pub shown_forward : (s : List Bool) → along Forward s ≡ shown Msb0 s
unfolding shown
shown_forward s = refl

pub shown_turned : (s : List Bool) → length s % 8 ≡ 0 → along TurnedBytes s ≡ shown Lsb0 s
unfolding shown
shown_turned s h = sym (shown_even s h)

pub shown_backward : (s : List Bool) → (length s % 8 ≡ 0 → ⊥) → along Backward s ≡ shown Lsb0 s
shown_backward s h = sym (shown_odd s h)

-- ---- bits that went out, and more bits
split_bytes : (o : Order) (h hs xs ys : List Bool) → hs ≡ remainder (h ++ xs) → emitted o (h ++ (xs ++ ys)) ≡ emitted o (h ++ xs) ++ emitted o (hs ++ ys)
split_bytes o h hs xs ys e =
    ap (emitted o) (sym (append_assoc h xs ys)) ∙ emitted-append o (h ++ xs) ys ∙ ap (λ l. emitted o (h ++ xs) ++ emitted o (l ++ ys)) (sym e)

pub Pushed-trans : (a b c : KnownSink) (o : Order) (h hs hs2 xs ys : List Bool) → Pushed a b o h hs xs → Pushed b c o hs hs2 ys → Pushed a c o h hs2 (xs ++ ys)
Pushed-trans a b c o h hs hs2 xs ys m n = record {
  gave = subst (λ l. Gave a c l) (sym (split_bytes o (facing o h) (facing o hs) xs ys m.rest)) (Gave-trans a b c _ _ m.gave n.gave);
  rest = n.rest ∙ ap (λ l. remainder (l ++ ys)) m.rest ∙ sym (remainder-append (facing o h ++ xs) ys) ∙ ap remainder (append_assoc (facing o h) xs ys);
}

-- eight bits are a byte
pub emitted_one : (o : Order) (g : List Bool) → length g ≡ 8 → emitted o g ≡ group_number o g ∷ []
emitted_one o g l = ap (emitted o) (sym (append-nil g)) ∙ emitted-full o g [] l

pub remainder_one : (g : List Bool) → length g ≡ 8 → remainder g ≡ []
remainder_one g l = ap remainder (sym (append-nil g)) ∙ remainder-full g [] l

-- what is held after bits went out is no byte
pub Pushed-short : {a b : KnownSink} {o : Order} {h hs xs : List Bool} → Pushed a b o h hs xs → length hs < 8
Pushed-short {a} {b} {o} {h} {hs} {xs} m = omega (arith, length-facing o hs, ap length m.rest, length-remainder (facing o h ++ xs))

-- bits went out, and then the sink gave up
pub Pushed-gave_up : (a b c : KnownSink) (o : Order) (h hs xs ys : List Bool) (k : ErrorKind) → Pushed a b o h hs xs → GaveUp b c (full_bytes o hs ys) k
    → GaveUp a c (full_bytes o h (xs ++ ys)) k
Pushed-gave_up a b c o h hs xs ys k p f =
    subst (λ l. GaveUp a c l k) (sym (split_bytes o (facing o h) (facing o hs) xs ys p.rest)) (gave_up-after a b c (full_bytes o h xs) (full_bytes o hs ys) k p.gave f)

-- where more bits were to go out
pub gave_up-longer : (a b : KnownSink) (o : Order) (h xs ys : List Bool) (k : ErrorKind) → GaveUp a b (full_bytes o h xs) k → GaveUp a b (full_bytes o h (xs ++ ys)) k
gave_up-longer a b o h xs ys k f =
    let all : full_bytes o h (xs ++ ys) ≡ full_bytes o h xs ++ emitted o (remainder (facing o h ++ xs) ++ ys) =
    ap (emitted o) (sym (append_assoc (facing o h) xs ys)) ∙ emitted-append o (facing o h ++ xs) ys in
    subst (λ l. GaveUp a b l k) (sym all) (gave_up-more a b (full_bytes o h xs) (emitted o (remainder (facing o h ++ xs) ++ ys)) k f)

-- ---- a way, bit after bit
module _ (a b c : KnownSink) (o : Order) (w : Way) (h hs bits : List Bool) (i : ℕ) (x : Bool) (inside : i < length bits) (is : x ≡ get_or (along w bits) i false)
    (so_far : Pushed a b o h hs (take i (along w bits))) where
  pub along_more : (hs2 : List Bool) → Pushed b c o hs hs2 (x ∷ []) → Pushed a c o h hs2 (take (i + 1) (along w bits))
  along_more hs2 m =
      let l : i < length (along w bits) = rw length-along inside in
      rw (take_more (along w bits) i false l, ← is) (Pushed-trans a b c o h hs hs2 (take i (along w bits)) (x ∷ []) so_far m)

  pub along_stopped : (k : ErrorKind) → GaveUp b c (full_bytes o hs (x ∷ [])) k → GaveUp a c (full_bytes o h (along w bits)) k
  along_stopped k f =
      let all : List Bool = along w bits in
      let l : i < length all = rw length-along inside in
      let next : take i all ++ x ∷ [] ≡ take (i + 1) all = ap (λ y. take i all ++ y ∷ []) is ∙ sym (take_more all i false l) in
      let tried = Pushed-gave_up a b c o h hs (take i all) (x ∷ []) k so_far f in
      subst (λ y. GaveUp a c (full_bytes o h y) k) (ap (λ y. y ++ drop (i + 1) all) next ∙ take-append-drop (i + 1) all)
      (gave_up-longer a c o h (take i all ++ x ∷ []) (drop (i + 1) all) k tried)

pub along_all : (a b : KnownSink) (o : Order) (w : Way) (h hs bits : List Bool) (i : ℕ) → length bits ≤ i → Pushed a b o h hs (take i (along w bits)) → Pushed a b o h hs (along w bits)
along_all a b o w h hs bits i l m = let e : length (along w bits) ≤ i = rw length-along l in rw (take_all i (along w bits) e) at m

-- ---- three lists
module _ (o : Order) (w : Way) (xs ys zs : List Bool) where
  pub three_pushed : (a b c d : KnownSink) (h h1 h2 h3 : List Bool) → h ≡ [] → Pushed a b o h h1 (along w xs) → Pushed b c o h1 h2 ys → Pushed c d o h2 h3 zs
      → Pushed a d o [] h3 (along w xs ++ ys ++ zs)
  three_pushed a b c d h h1 h2 h3 e l m n =
      subst (λ x. Pushed a d o x h3 (along w xs ++ ys ++ zs)) e
      (Pushed-trans a c d o h h2 h3 (along w xs ++ ys) zs (Pushed-trans a b c o h h1 h2 (along w xs) ys l m) n)

  pub first_stopped : (a b : KnownSink) (h : List Bool) (k : ErrorKind) → h ≡ [] → GaveUp a b (full_bytes o h (along w xs)) k
      → GaveUp a b (full_bytes o [] (along w xs ++ ys ++ zs)) k
  first_stopped a b h k e f = subst (λ x. GaveUp a b (full_bytes o x (along w xs ++ ys ++ zs)) k) e (gave_up-longer a b o h (along w xs ++ ys) zs k (gave_up-longer a b o h (along w xs) ys k f))

  pub second_stopped : (a b c : KnownSink) (h h1 : List Bool) (k : ErrorKind) → h ≡ [] → Pushed a b o h h1 (along w xs) → GaveUp b c (full_bytes o h1 ys) k
      → GaveUp a c (full_bytes o [] (along w xs ++ ys ++ zs)) k
  second_stopped a b c h h1 k e l f =
      subst (λ x. GaveUp a c (full_bytes o x (along w xs ++ ys ++ zs)) k) e
      (gave_up-longer a c o h (along w xs ++ ys) zs k (Pushed-gave_up a b c o h h1 (along w xs) ys k l f))

  pub third_stopped : (a b c d : KnownSink) (h h1 h2 : List Bool) (k : ErrorKind) → h ≡ [] → Pushed a b o h h1 (along w xs) → Pushed b c o h1 h2 ys → GaveUp c d (full_bytes o h2 zs) k
      → GaveUp a d (full_bytes o [] (along w xs ++ ys ++ zs)) k
  third_stopped a b c d h h1 h2 k e l m f =
      subst (λ x. GaveUp a d (full_bytes o x (along w xs ++ ys ++ zs)) k) e
      (Pushed-gave_up a c d o h h2 (along w xs ++ ys) zs k (Pushed-trans a b c o h h1 h2 (along w xs) ys l m) f)

pub ruleset ways = (turned_at, length-turned, get_or-reverse)

pub ruleset shown_ways = (shown_forward, shown_turned, shown_backward)

-- ---- a byte that fills, or none
pub filled_none : (a : KnownSink) (o : Order) (h hs xs : List Bool) → Fills o h hs xs [] → Pushed a a o h hs xs
filled_none a o h hs xs f = record { gave = rw (← f.bytes) (Gave-nil a); rest = f.rest }

pub filled_given : (a b : KnownSink) (o : Order) (h hs xs : List Bool) (out : List ℕ) → Fills o h hs xs out → Gave a b out → Pushed a b o h hs xs
filled_given a b o h hs xs out f g = record { gave = rw (← f.bytes) g; rest = f.rest }

-- where the sink gave up
pub filled_declined : (a b : KnownSink) (o : Order) (h hs xs : List Bool) (out : List ℕ) (k : ErrorKind) → Fills o h hs xs out → GaveUp a b out k → GaveUp a b (full_bytes o h xs) k
filled_declined a b o h hs xs out k f g = subst (λ l. GaveUp a b l k) f.bytes g

-- how many bytes fill
pub filled_count : (o : Order) (h hs xs : List Bool) (out : List ℕ) → Fills o h hs xs out → length out ≡ (length h + length xs) / 8
filled_count o h hs xs out f =
    ap length f.bytes ∙ length-emitted o (facing o h ++ xs) ∙ ap (λ n. n / 8) (length-append (facing o h) xs ∙ ap (λ n. n + length xs) (length-facing o h))
