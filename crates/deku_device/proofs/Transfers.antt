-- What a sink took over several calls, and what room it has then.
use Rattle.std.proofs.Common.{◌≡◌, ℕ, zero, suc, ◌+◌, ◌-◌, ◌<◌, ◌≤◌, List, [], ◌∷◌, ◌++◌, length, take, drop, refl, sym, ap, subst, ◌∙◌, arith, append_assoc, length-append, length-drop, drop-drop, Option, Some, None, inl, inr}
use Rattle.std.proofs.lemmas.List.{length-take, take-append-le, take-append-drop, take_more}
use Rattle.std.specs.Prelude.{get_or}
use Rattle.std.proofs.KnownBytes.{Appends-nil, Appends-trans}
use Rattle.std.specs.Io.KnownBytes.{Appends}
use Rattle.std.specs.declared.io.ErrorKind.{ErrorKind}
use Rattle.deku_device.specs.Devices.{KnownSink, Shrinks, LacksRoom, Gave, TakesSome, ShrinksSome, Declined}
use Rattle.deku_device.proofs.Failures.{no_fewer_same, no_fewer_on, more_on}

-- ---- room
pub Shrinks-none : (a : Option (List ℕ)) → Shrinks a a 0
Shrinks-none None = tt
Shrinks-none (Some x) = (omega arith, refl)

pub Shrinks-trans : (a b c : Option (List ℕ)) (m n : ℕ) → Shrinks a b m → Shrinks b c n → Shrinks a c (m + n)
Shrinks-trans None None None m n p q = tt
Shrinks-trans None None (Some z) m n p q = absurd q
Shrinks-trans None (Some y) c m n p q = absurd p
Shrinks-trans (Some x) None c m n p q = absurd p
Shrinks-trans (Some x) (Some y) None m n p q = absurd q
Shrinks-trans (Some x) (Some y) (Some z) m n p q =
    let left : length y ≡ length x - m = ap length p.1 ∙ length-drop m x in
    (omega (arith, p.0, q.0, left), q.1 ∙ ap (drop n) p.1 ∙ drop-drop n m x)

pub LacksRoom-after : (a b : Option (List ℕ)) (m n : ℕ) (k : ErrorKind) → Shrinks a b m → LacksRoom b n k → LacksRoom a (m + n) k
LacksRoom-after None None m n k p q = q
LacksRoom-after None (Some y) m n k p q = absurd p
LacksRoom-after (Some x) None m n k p q = absurd p
LacksRoom-after (Some x) (Some y) m n k p q = let left : length y ≡ length x - m = ap length p.1 ∙ length-drop m x in (q.0, omega (arith, p.0, q.1, left))

pub LacksRoom-more : (a : Option (List ℕ)) (m n : ℕ) (k : ErrorKind) → m ≤ n → LacksRoom a m k → LacksRoom a n k
LacksRoom-more None m n k l p = p
LacksRoom-more (Some x) m n k l p = (p.0, omega (arith, p.1))

-- ---- transfers
pub Gave-nil : (a : KnownSink) → Gave a a []
Gave-nil a = record { taken = Appends-nil a.taken; room = Shrinks-none a.room; health = no_fewer_same a.health }

pub Gave-trans : (a b c : KnownSink) (xs ys : List ℕ) → Gave a b xs → Gave b c ys → Gave a c (xs ++ ys)
Gave-trans a b c xs ys p q = record {
  taken = Appends-trans a.taken b.taken c.taken xs ys p.taken q.taken;
  room = rw length-append (Shrinks-trans a.room b.room c.room (length xs) (length ys) p.room q.room);
  health = no_fewer_on a.health b.health c.health p.health q.health;
}

-- ---- beginnings
-- a front of some bytes, after others, is a front of both
front_after : (xs ys : List ℕ) (n : ℕ) → xs ++ take n ys ≡ take (length xs + n) (xs ++ ys)
front_after [] ys n = let none : 0 + n ≡ n = omega arith in rw none refl
front_after (x ∷ xs) ys n = let one : suc (length xs) + n ≡ suc (length xs + n) = omega arith in rw one (ap (λ l. x ∷ l) (front_after xs ys n))

-- as many bytes as a front has
front_count : (n : ℕ) (ys : List ℕ) → take (length (take n ys)) ys ≡ take n ys
front_count zero ys = refl
front_count (suc n) [] = refl
front_count (suc n) (y ∷ ys) = ap (λ l. y ∷ l) (front_count n ys)

-- a beginning of what follows, after bytes that were taken
TakesSome-after : (a b c : Option (List ℕ)) (xs ys : List ℕ) → Appends a b xs → TakesSome b c ys → TakesSome a c (xs ++ ys)
TakesSome-after None b c xs ys p q = tt
TakesSome-after (Some s) None c xs ys p q = absurd p
TakesSome-after (Some s) (Some t) None xs ys p q = absurd q
TakesSome-after (Some s) (Some t) (Some u) xs ys p q =
    let k : ℕ = length u - length t in
    let f : List ℕ = take k ys in
    let t_long : length t ≡ length s + length xs = ap length p ∙ length-append s xs in
    let u_long : length u ≡ length t + length f = ap length q ∙ length-append t f in
    let more : length u - length s ≡ length xs + length f = omega arith in
    let joined : u ≡ s ++ (xs ++ f) = q ∙ ap (λ x. x ++ f) p ∙ append_assoc s xs f in
    let cut : take (length xs + length f) (xs ++ ys) ≡ xs ++ f = sym (front_after xs ys (length f)) ∙ ap (λ l. xs ++ l) (front_count k ys) in
    joined ∙ ap (λ l. s ++ l) (sym (ap (λ n. take n (xs ++ ys)) more ∙ cut))

-- a beginning of bytes is one of more bytes
TakesSome-more : (a b : Option (List ℕ)) (xs ys : List ℕ) → TakesSome a b xs → TakesSome a b (xs ++ ys)
TakesSome-more None b xs ys p = tt
TakesSome-more (Some s) None xs ys p = absurd p
TakesSome-more (Some s) (Some t) xs ys p =
    let k : ℕ = length t - length s in
    let t_long : length t ≡ length s + length (take k xs) = ap length p ∙ length-append s (take k xs) in
    let within : k ≤ length xs = omega (arith, t_long, length-take k xs) in
    p ∙ ap (λ l. s ++ l) (sym (take-append-le k xs ys within))

-- an end of an end
ShrinksSome-after : (a b c : Option (List ℕ)) (n : ℕ) → Shrinks a b n → ShrinksSome b c → ShrinksSome a c
ShrinksSome-after None None None n p q = tt
ShrinksSome-after None None (Some z) n p q = absurd q
ShrinksSome-after None (Some y) c n p q = absurd p
ShrinksSome-after (Some x) None c n p q = absurd p
ShrinksSome-after (Some x) (Some y) None n p q = absurd q
ShrinksSome-after (Some x) (Some y) (Some z) n p q =
    let y_long : length y ≡ length x - n = ap length p.1 ∙ length-drop n x in
    let z_long : length z ≡ length y - (length y - length z) = ap length q ∙ length-drop (length y - length z) y in
    let more : n + (length y - length z) ≡ length x - length z = omega (arith, p.0, y_long, z_long) in
    q ∙ ap (drop (length y - length z)) p.1 ∙ drop-drop (length y - length z) n x ∙ ap (λ k. drop k x) more

-- bytes were taken, and then not all of the others
pub Declined-after : (a b c : KnownSink) (xs ys : List ℕ) (k : ErrorKind) → Gave a b xs → Declined b c ys k → Declined a c (xs ++ ys) k
Declined-after a b c xs ys k p q = record {
  cause = elim q.cause [
    | inl r ↦ inl (more_on a.health b.health c.health p.health r)
    | inr r ↦ inr (rw length-append (LacksRoom-after a.room b.room (length xs) (length ys) k p.room r))
  ];
  taken = TakesSome-after a.taken b.taken c.taken xs ys p.taken q.taken;
  room = ShrinksSome-after a.room b.room c.room (length xs) p.room q.room;
  health = no_fewer_on a.health b.health c.health p.health q.health;
}

-- where more bytes were to be taken
pub Declined-more : (a b : KnownSink) (xs ys : List ℕ) (k : ErrorKind) → Declined a b xs k → Declined a b (xs ++ ys) k
Declined-more a b xs ys k q = record {
  cause = elim q.cause [
    | inl r ↦ inl r
    | inr r ↦ inr (LacksRoom-more a.room (length xs) (length (xs ++ ys)) k (simp length-append (omega arith)) r)
  ];
  taken = TakesSome-more a.taken b.taken xs ys q.taken;
  room = q.room;
  health = q.health;
}

-- the first i bytes were taken, and then not the next one
pub Declined-at : (a b c : KnownSink) (bytes : List ℕ) (i : ℕ) (k : ErrorKind) → i < length bytes → Gave a b (take i bytes) → Declined b c (get_or bytes i 0 ∷ []) k → Declined a c bytes k
Declined-at a b c bytes i k l p q =
    let tried : Declined a c (take (i + 1) bytes) k = subst (λ x. Declined a c x k) (sym (take_more bytes i 0 l)) (Declined-after a b c (take i bytes) (get_or bytes i 0 ∷ []) k p q) in
    subst (λ x. Declined a c x k) (take-append-drop (i + 1) bytes) (Declined-more a c (take (i + 1) bytes) (drop (i + 1) bytes) k tried)
