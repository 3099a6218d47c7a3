-- Slots for items that are read one after the other: what is known on the way.
use Rattle.std.proofs.Common.{◌≡◌, ℕ, suc, ◌+◌, ◌-◌, ◌<◌, Result, Ok, Err, Option, Some, None, false, List, [], ◌∷◌, ◌++◌, length, map, get_or, set, take, refl, ap, sym, ◌∙◌, subst, append_assoc, append-nil, length-set, arith, rules}
use Rattle.std.proofs.lemmas.List.{take_more_set, take_all, map-append, length-append, get_or-map}
use Rattle.std.specs.Option.{IsSome}
use Rattle.deku_bits.specs.declared.error.DekuError.{DekuError}
use Rattle.deku_bits.specs.Devices.{Health}
use Rattle.deku_bits.specs.Standings.{Standing}
use Rattle.deku_bits.specs.Outcomes.{Meaning, Outcome, Quiet, Broken, Mapped}
use Rattle.deku_bits.proofs.Handing.{no_ok, broken_at, mapped_ok, mapped_err}
use Rattle.deku_reading.specs.Lists.{ReadsTimes, on_value, Seen}
use Rattle.deku_meanings.proofs.Joining.{first_refused, then_on, answered}

-- ---- full slots
-- a slot that stands for an item is full
pub full_of_map : {V : Type 0} (vs : List V) (slots : List (Option V)) (n : ℕ) → length vs ≡ n → slots ≡ map (λ v. Some v) vs
    → (k : ℕ) → k < n → IsSome (get_or slots k None)
full_of_map [] slots n l e k h = absurd (omega (arith, l))
full_of_map (v ∷ vs) slots n l e k h = rw (e, get_or-map (λ x. Some x) (v ∷ vs) k v None (omega (arith, l))) (search rules)

-- the same slots hold the same items
pub same_items : {V : Type 0} (vs ws : List V) → map (λ v. Some v) vs ≡ map (λ w. Some w) ws → vs ≡ ws
same_items [] [] e = refl
same_items [] (w ∷ ws) e = absurd (let k : [] ≡ Some w ∷ map (λ x. Some x) ws = e in cc)
same_items (v ∷ vs) [] e = absurd (let k : Some v ∷ map (λ x. Some x) vs ≡ [] = e in cc)
same_items (v ∷ vs) (w ∷ ws) e =
    let k : Some v ∷ map (λ x. Some x) vs ≡ Some w ∷ map (λ x. Some x) ws = e in
    let t : map (λ x. Some x) vs ≡ map (λ x. Some x) ws = cc in
    let h : v ≡ w = cc in
    rw (h, same_items vs ws t) refl

-- ---- what is seen of a value
pub seen_ok : {A V W : Type 0} (h : V → W) {m : Meaning A W} {s : Standing A} {f : Health} {v : V} {w : W} {u : Standing A} {g : Health}
    → w ≡ h v → Outcome m s f (Ok w) u g → Outcome (Seen h m) s f (Ok v) u g
seen_ok h {m} {s} {u} e (Quiet p q) = Quiet (subst (λ x. m false s (Ok x) u) e p) q
seen_ok h e (Broken a p q) = absurd (no_ok a)

pub seen_err : {A V W : Type 0} (h : V → W) {m : Meaning A W} {s : Standing A} {f : Health} {e : DekuError} {u : Standing A} {g : Health}
    → Outcome m s f (Err e) u g → Outcome (Seen h m) s f (Err e) u g
seen_err h (Quiet p q) = Quiet p q
seen_err h (Broken a p q) = Broken (broken_at a) p q

-- ---- items that are read into slots
consed : {A V : Type 0} (v : V) (m : Meaning A (List V)) (s : Standing A) (f : Health) (r : Result (List V) DekuError) (u : Standing A) (g : Health)
    → Outcome m s f r u g → Outcome (Mapped (λ vs. v ∷ vs) m) s f (on_value (λ vs. v ∷ vs) r) u g
consed v m s f (Ok vs) u g o = mapped_ok (λ xs. v ∷ xs) o
consed v m s f (Err e) u g o = mapped_err (λ xs. v ∷ xs) o

fronts : {V : Type 0} (vs : List V) (v : V) (r : Result (List V) DekuError)
    → on_value (λ ws. vs ++ ws) (on_value (λ ws. v ∷ ws) r) ≡ on_value (λ ws. (vs ++ v ∷ []) ++ ws) r
fronts vs v (Ok ws) = ap Ok (sym (append_assoc vs (v ∷ []) ws))
fronts vs v (Err e) = refl

module _ {A V : Type 0} (m : Meaning A V) (n : ℕ) where
  -- the first i slots hold the items that were read, and n - i may follow
  pub record FilledTo (i : ℕ) (slots : List (Option V)) (s0 : Standing A) (f0 : Health) (s : Standing A) (f : Health) : Type 0 where
    pub items : List V
    pub long : length slots ≡ n
    pub read : length items ≡ i
    pub held : take i slots ≡ map (λ v. Some v) items
    pub ahead : (r : Result (List V) DekuError) (u : Standing A) (h : Health)
        → Outcome (ReadsTimes (n - i) m) s f r u h → Outcome (ReadsTimes n m) s0 f0 (on_value (λ vs. items ++ vs) r) u h

  same_answer : (r : Result (List V) DekuError) → r ≡ on_value (λ vs. [] ++ vs) r
  same_answer (Ok vs) = refl
  same_answer (Err e) = refl

  none_less : n - 0 ≡ n
  none_less = omega arith

  pub no_items : (slots : List (Option V)) (s : Standing A) (f : Health) → length slots ≡ n → FilledTo 0 slots s f s f
  no_items slots s f l = record {
    items = [];
    long = l;
    read = refl;
    held = refl;
    ahead = λ r u h o. subst (λ x. Outcome (ReadsTimes n m) s f x u h) (same_answer r) (subst (λ x. Outcome (ReadsTimes x m) s f r u h) none_less o);
  }

  one_less : (i : ℕ) → i < n → n - i ≡ suc (n - (i + 1))
  one_less i l = omega arith

  pub item_read : (i : ℕ) (v : V) (slots : List (Option V)) (s0 : Standing A) (f0 : Health) (s : Standing A) (f : Health) (t : Standing A) (g : Health)
      → i < n → FilledTo i slots s0 f0 s f → Outcome m s f (Ok v) t g → FilledTo (i + 1) (set slots i (Some v)) s0 f0 t g
  item_read i v slots s0 f0 s f t g l k o = record {
    items = k.items ++ v ∷ [];
    long = length-set slots i (Some v) ∙ k.long;
    read = length-append k.items (v ∷ []) ∙ ap (λ x. x + 1) k.read;
    held = take_more_set slots i (Some v) (omega (arith, k.long)) ∙ ap (λ x. x ++ Some v ∷ []) k.held ∙ sym (map-append (λ x. Some x) k.items (v ∷ []));
    ahead = λ r u h p. subst (λ x. Outcome (ReadsTimes n m) s0 f0 x u h) (fronts k.items v r)
        (k.ahead (on_value (λ vs. v ∷ vs) r) u h (subst (λ x. Outcome (ReadsTimes x m) s f (on_value (λ vs. v ∷ vs) r) u h) (sym (one_less i l))
        (then_on o (consed v (ReadsTimes (n - (i + 1)) m) t g r u h p))));
  }

  pub item_refused : (i : ℕ) (e : DekuError) (slots : List (Option V)) (s0 : Standing A) (f0 : Health) (s : Standing A) (f : Health) (t : Standing A) (g : Health)
      → i < n → FilledTo i slots s0 f0 s f → Outcome m s f (Err e) t g → Outcome (ReadsTimes n m) s0 f0 (Err e) t g
  item_refused i e slots s0 f0 s f t g l k o =
      k.ahead (Err e) t g (subst (λ x. Outcome (ReadsTimes x m) s f (Err e) t g) (sym (one_less i l)) (first_refused o))

  pub items_read : (i : ℕ) (slots : List (Option V)) (s0 : Standing A) (f0 : Health) (s : Standing A) (f : Health)
      → i ≡ n → (k : FilledTo i slots s0 f0 s f) → Outcome (ReadsTimes n m) s0 f0 (Ok k.items) s f
  items_read i slots s0 f0 s f e k =
      let none : n - i ≡ 0 = omega arith in
      subst (λ x. Outcome (ReadsTimes n m) s0 f0 (Ok x) s f) (append-nil k.items)
      (k.ahead (Ok []) s f (subst (λ x. Outcome (ReadsTimes x m) s f (Ok []) s f) (sym none) answered))

  pub all_held : (i : ℕ) (slots : List (Option V)) (s0 : Standing A) (f0 : Health) (s : Standing A) (f : Health)
      → i ≡ n → (k : FilledTo i slots s0 f0 s f) → slots ≡ map (λ v. Some v) k.items
  all_held i slots s0 f0 s f e k = sym (take_all i slots (omega (arith, k.long, e))) ∙ k.held
