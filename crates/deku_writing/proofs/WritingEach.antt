-- Items one after the other: what is known on the way.
use Rattle.std.proofs.Common.{◌≡◌, ℕ, ◌+◌, ◌-◌, ◌<◌, ◌≤◌, Bool, true, false, Result, Ok, Err, List, [], ◌∷◌, ◌++◌, length, get_or, take, drop, take-append-drop, take-add, length-drop, arith, ap, ap₂, sym, ◌∙◌, subst}
use Rattle.std.proofs.lemmas.List.{drop_more, drop_all, drop-drop, take_all}
use Rattle.deku_bits.specs.declared.error.DekuError.{DekuError}
use Rattle.deku_bits.specs.Devices.{Health}
use Rattle.deku_bits.specs.Standings.{Standing}
use Rattle.deku_bits.specs.Outcomes.{Meaning, Outcome, Quiet, Broken}
use Rattle.deku_bits.proofs.Handing.{meant, no_fewer_on, more_on}
use Rattle.deku_meanings.specs.Composing.{Answered, Second, First}
use Rattle.deku_writing.specs.Composing.{WritesEach}
use Rattle.deku_meanings.proofs.Joining.{first_refused, then_on, answered}

-- the items from place i on are the one there and those after it
next_of : {V : Type 0} (vs : List V) (i : ℕ) (v : V) → i < length vs → v ≡ get_or vs i v → drop i vs ≡ v ∷ drop (i + 1) vs
next_of vs i v l e = drop_more vs i v l ∙ ap (λ x. x ∷ drop (i + 1) vs) (sym e)

-- ---- some items, and then others
pub each_then : {A V : Type 0} (m : V → Meaning A (Unit {0})) (xs ys : List V) (b : Bool) (s t : Standing A) (r : Result (Unit {0}) DekuError) (u : Standing A)
    → WritesEach m xs false s (Ok tt) t → WritesEach m ys b t r u → WritesEach m (xs ++ ys) b s r u
each_then m [] ys b s t r u Answered q = q
each_then m (x ∷ xs) ys b s t r u (Second v w p rest) q = Second v w p (each_then m xs ys b w t r u rest q)
each_then m (x ∷ xs) ys b s t r u (First e p is) q = absurd (cc)

pub each_on : {A V : Type 0} (m : V → Meaning A (Unit {0})) (xs ys : List V) {s : Standing A} {f : Health} {t : Standing A} {g : Health} {r : Result (Unit {0}) DekuError} {u : Standing A} {h : Health}
    → Outcome (WritesEach m xs) s f (Ok tt) t g → Outcome (WritesEach m ys) t g r u h → Outcome (WritesEach m (xs ++ ys)) s f r u h
each_on m xs ys {s} {f} {t} {g} {r} {u} {h} a (Quiet p q) = let d = meant a in Quiet (each_then m xs ys false s t r u d.0 p) (no_fewer_on f g h d.1 q)
each_on m xs ys {s} {f} {t} {g} {r} {u} {h} a (Broken z p q) = let d = meant a in Broken z (each_then m xs ys true s t r u d.0 p) (more_on f g h d.1 q)

-- the items from place i on, as a slice from there has them
abbrev pub from : {V : Type 0} → ℕ → List V → List V
from i vs = take (length vs - i) (drop i vs)

from_all : {V : Type 0} (i : ℕ) (vs : List V) → from i vs ≡ drop i vs
from_all i vs = take_all (length vs - i) (drop i vs) (omega (arith, length-drop i vs))

-- the first of the items, and those after them
pub first_then : {A V : Type 0} (m : V → Meaning A (Unit {0})) (vs : List V) (i n j : ℕ) {s : Standing A} {f : Health} {t : Standing A} {g : Health} {u : Standing A} {h : Health} → i + n ≡ j
    → Outcome (WritesEach m (take i vs)) s f (Ok tt) t g → Outcome (WritesEach m (take n (from i vs))) t g (Ok tt) u h → Outcome (WritesEach m (take j vs)) s f (Ok tt) u h
first_then m vs i n j {s} {f} {u} {h} sum a b =
    let all : take i vs ++ take n (from i vs) ≡ take j vs = ap (λ x. take i vs ++ take n x) (from_all i vs) ∙ sym (take-add i n vs) ∙ ap (λ k. take k vs) sum in
    subst (λ x. Outcome (WritesEach m x) s f (Ok tt) u h) all (each_on m (take i vs) (take n (from i vs)) a b)

module _ {A V : Type 0} (m : V → Meaning A (Unit {0})) (vs : List V) where
  -- the rest may follow
  abbrev pub Awaits : List V → Standing A → Health → Standing A → Health → Type 0
  Awaits rest s0 f0 s f = (r : Result (Unit {0}) DekuError) (u : Standing A) (h : Health)
      → Outcome (WritesEach m rest) s f r u h → Outcome (WritesEach m vs) s0 f0 r u h

  pub begun : (s : Standing A) (f : Health) → Awaits vs s f s f
  begun s f r u h o = o

  pub next_written : (v : V) (rest : List V) (s0 : Standing A) (f0 : Health) (s : Standing A) (f : Health) (t : Standing A) (g : Health)
      → Awaits (v ∷ rest) s0 f0 s f → Outcome (m v) s f (Ok tt) t g → Awaits rest s0 f0 t g
  next_written v rest s0 f0 s f t g k o r u h p = k r u h (then_on o p)

  pub next_refused : (v : V) (rest : List V) (e : DekuError) (s0 : Standing A) (f0 : Health) (s : Standing A) (f : Health) (t : Standing A) (g : Health)
      → Awaits (v ∷ rest) s0 f0 s f → Outcome (m v) s f (Err e) t g → Outcome (WritesEach m vs) s0 f0 (Err e) t g
  next_refused v rest e s0 f0 s f t g k o = k (Err e) t g (first_refused o)

  pub none_left : (s0 : Standing A) (f0 : Health) (s : Standing A) (f : Health) → Awaits [] s0 f0 s f → Outcome (WritesEach m vs) s0 f0 (Ok tt) s f
  none_left s0 f0 s f k = k (Ok tt) s f answered

  -- the items from place i on may follow
  abbrev pub GoesOn : ℕ → Standing A → Health → Standing A → Health → Type 0
  GoesOn i = Awaits (drop i vs)

  pub item_written : (i : ℕ) (v : V) (s0 : Standing A) (f0 : Health) (s : Standing A) (f : Health) (t : Standing A) (g : Health)
      → i < length vs → v ≡ get_or vs i v → GoesOn i s0 f0 s f → Outcome (m v) s f (Ok tt) t g → GoesOn (i + 1) s0 f0 t g
  item_written i v s0 f0 s f t g l e k o = next_written v (drop (i + 1) vs) s0 f0 s f t g (subst (λ x. Awaits x s0 f0 s f) (next_of vs i v l e) k) o

  pub item_refused : (i : ℕ) (v : V) (e : DekuError) (s0 : Standing A) (f0 : Health) (s : Standing A) (f : Health) (t : Standing A) (g : Health)
      → i < length vs → v ≡ get_or vs i v → GoesOn i s0 f0 s f → Outcome (m v) s f (Err e) t g → Outcome (WritesEach m vs) s0 f0 (Err e) t g
  item_refused i v e s0 f0 s f t g l q k o = next_refused v (drop (i + 1) vs) e s0 f0 s f t g (subst (λ x. Awaits x s0 f0 s f) (next_of vs i v l q) k) o

  pub items_written : (i : ℕ) (s0 : Standing A) (f0 : Health) (s : Standing A) (f : Health)
      → length vs ≤ i → GoesOn i s0 f0 s f → Outcome (WritesEach m vs) s0 f0 (Ok tt) s f
  items_written i s0 f0 s f l k = none_left s0 f0 s f (subst (λ x. Awaits x s0 f0 s f) (drop_all i vs l) k)

  -- as many of them are written at once
  pub some_written : (i n : ℕ) (s0 : Standing A) (f0 : Health) (s : Standing A) (f : Health) (t : Standing A) (g : Health)
      → GoesOn i s0 f0 s f → Outcome (WritesEach m (take n (from i vs))) s f (Ok tt) t g → GoesOn (i + n) s0 f0 t g
  some_written i n s0 f0 s f t g k o r u h p =
      let rest : drop n (drop i vs) ≡ drop (i + n) vs = drop-drop n i vs in
      let all : take n (from i vs) ++ drop (i + n) vs ≡ drop i vs = ap₂ (λ x y. take n x ++ y) (from_all i vs) (sym rest) ∙ take-append-drop n (drop i vs) in
      k r u h (subst (λ x. Outcome (WritesEach m x) s f r u h) all (each_on m (take n (from i vs)) (drop (i + n) vs) o p))
