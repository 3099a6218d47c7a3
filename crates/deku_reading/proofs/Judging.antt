-- Items that are read under a limit and put into a collection: what is known on the way.
use Rattle.std.proofs.Common.{◌≡◌, ◌⊎◌, ◌↔◌, ℕ, ◌+◌, ◌*◌, ◌^◌, ◌<◌, Bool, true, false, List, [], ◌∷◌, ◌++◌, Result, Ok, Err, Option, Some, None, ◌≤◌, ◌∙◌, refl, sym, inl, inr, codes, arith}
use Rattle.std.specs.Prelude.{⊤}
use Rattle.std.specs.List.{FoldsTo}
use Rattle.std.proofs.lemmas.Fn.{FoldsTo-push}
use Rattle.std.proofs.lemmas.List.{map-append}
use Rattle.std.specs.declared.io.ErrorKind.TheVariants.{OutOfMemory}
use Rattle.deku_bits.specs.declared.error.DekuError.{DekuError}
use Rattle.deku_bits.specs.declared.error.DekuError.TheVariants.{Parse, InvalidParam, Io}
use Rattle.std.specs.Borrow.{Bor}
use Rattle.deku_num.specs.NumberCalls.{Checked, Refused, Passed}
use Rattle.deku_bits.specs.Faults.{Tells}
use Rattle.deku_bits.specs.Devices.{Health, DeviceKept}
use Rattle.deku_bits.specs.Standings.{Standing, Going, Stopped, count_of, reader_state}
use Rattle.deku_bits.specs.Outcomes.{Meaning, Outcome, Quiet, Broken}
use Rattle.deku_bits.proofs.Handing.{no_ok, broken_at, meant, no_fewer_on, more_on, no_fewer_same}
use Rattle.deku_reading.specs.Limits.{Taken, taken_items, Widens, TakesItem, TakesEach, Judge, GoesOn, Judged, EndsWith, Closes, ItemRefused, WithoutWidth, Unplaced, MappedBy, ValueBy, RefusalBy, ReadsBitsOf, NoBits, SomeBits, MoreToCome, PastCount}
use Rattle.deku_meanings.specs.Composing.{Answered}
use Rattle.deku_bits.specs.Streams.{Stream}
use Rattle.deku_bits.specs.ReaderCalls.{Ending}

-- ---- what stands for a value
pub held_ok : {A V W : Type 0} {h : V → W → Type 0} {m : Meaning A V} {s : Standing A} {f : Health} {v : V} {w : W} {u : Standing A} {g : Health}
    → Outcome m s f (Ok v) u g → h v w → Outcome (MappedBy h m) s f (Ok w) u g
held_ok {v} {w} (Quiet p q) k = Quiet (ValueBy v w p k refl) q
held_ok (Broken a p q) k = absurd (no_ok a)

pub held_err : {A V W : Type 0} {h : V → W → Type 0} {m : Meaning A V} {s : Standing A} {f : Health} {e : DekuError} {u : Standing A} {g : Health}
    → Outcome m s f (Err e) u g → Outcome (MappedBy h m) s f (Err e) u g
held_err {e} (Quiet p q) = Quiet (RefusalBy e p refl) q
held_err {e} (Broken a p q) = Broken (broken_at a) (RefusalBy e p refl) q

-- the same stands for more
pub held_as : {A V W : Type 0} {h : V → W → Type 0} (k : V → W → Type 0) {m : Meaning A V} {s : Standing A} {f : Health} {r : Result W DekuError} {u : Standing A} {g : Health}
    → ((v : V) (w : W) → h v w → k v w) → Outcome (MappedBy h m) s f r u g → Outcome (MappedBy k m) s f r u g
held_as k i (Quiet (ValueBy v w p h e) q) = Quiet (ValueBy v w p (i v w h) e) q
held_as k i (Quiet (RefusalBy x p e) q) = Quiet (RefusalBy x p e) q
held_as k i (Broken a (ValueBy v w p h e) q) = Broken a (ValueBy v w p (i v w h) e) q
held_as k i (Broken a (RefusalBy x p e) q) = Broken a (RefusalBy x p e) q

-- another value stands for it
pub held_other_ok : {A V W X : Type 0} {h : V → W → Type 0} (k : V → X → Type 0) {m : Meaning A V} {s : Standing A} {f : Health} {w : W} {x : X} {u : Standing A} {g : Health}
    → ((v : V) → h v w → k v x) → Outcome (MappedBy h m) s f (Ok w) u g → Outcome (MappedBy k m) s f (Ok x) u g
held_other_ok k {w = w} {x = x} i (Quiet (ValueBy v z p h e) q) = let same : w ≡ z = cc in Quiet (ValueBy v x p (i v (rw same h)) refl) q
held_other_ok k i (Quiet (RefusalBy y p e) q) = absurd (cc)
held_other_ok k i (Broken a p q) = absurd (no_ok a)

pub held_other_err : {A V W X : Type 0} {h : V → W → Type 0} (k : V → X → Type 0) {m : Meaning A V} {s : Standing A} {f : Health} {d : DekuError} {u : Standing A} {g : Health}
    → Outcome (MappedBy h m) s f (Err d) u g → Outcome (MappedBy k m) s f (Err d) u g
held_other_err k (Quiet (ValueBy v z p h e) q) = absurd (cc)
held_other_err k {d = d} (Quiet (RefusalBy y p e) q) = let same : d ≡ y = cc in Quiet (RefusalBy d (rw same p) refl) q
held_other_err k (Broken a (ValueBy v z p h e) q) = absurd (cc)
held_other_err k {d = d} (Broken a (RefusalBy y p e) q) = let same : d ≡ y = cc in Broken (broken_at a) (RefusalBy d (rw same p) refl) q

-- ---- items on the way
-- the item v, read from s to u
abbrev pub taken_at : {A T : Type 0} → T → Standing A → Standing A → Taken A T
taken_at v s u = record { item = v; before = s; after = u }

-- these were read and put in their places, and the list ends with none of them
pub record Gathering {A T B J : Type 0} (puts : B → T → B → Type 0) (judge : Judge A T J) (m : Meaning A T) (j k : J) (b c : B) (s0 : Standing A) (f0 : Health) (s : Standing A) (f : Health) : Type 0 where
  pub items : List (Taken A T)
  pub turn : TakesEach m s0 items s
  pub on : GoesOn judge j items k
  pub put : FoldsTo puts b (taken_items items) c
  pub calm : DeviceKept f0 f

module _ {A T B J : Type 0} {puts : B → T → B → Type 0} {judge : Judge A T J} {m : Meaning A T} {j k : J} {b c : B} {s0 : Standing A} {f0 : Health} {s : Standing A} {f : Health} (h : Gathering puts judge m j k b c s0 f0 s f) where
  -- one item more was read
  turn_on : {v : T} {t : Standing A} → m false s (Ok v) t → TakesEach m s0 (h.items ++ taken_at v s t ∷ []) t
  turn_on {v} {t} p = FoldsTo-push (TakesItem m) s0 h.items s (taken_at v s t) t h.turn (record { from = refl; read = p; left = refl })

  -- and put in its place
  put_on : {v : T} (t : Standing A) {d : B} → puts c v d → FoldsTo puts b (taken_items (h.items ++ taken_at v s t ∷ [])) d
  put_on {v} t {d} p = rw (map-append (λ x. x.item) h.items (taken_at v s t ∷ [])) (FoldsTo-push puts b (taken_items h.items) c v d h.put p)

  pub goes_on : {v : T} {t : Standing A} {g : Health} {d : B} {l : J} → Outcome m s f (Ok v) t g → judge k (taken_at v s t) false l → count_of s < count_of t → puts c v d
      → Gathering puts judge m j l b d s0 f0 t g
  goes_on {v} {t} {g} {d} {l} o y w p = let a = meant o in record {
    items = h.items ++ taken_at v s t ∷ [];
    turn = turn_on a.0;
    on = FoldsTo-push (λ i x l. judge i x false l × Widens x) j h.items k (taken_at v s t) l h.on (y, w);
    put = put_on t p;
    calm = no_fewer_on f0 f g h.calm a.1;
  }

module _ {A T B J : Type 0} {puts : B → T → B → Type 0} {judge : Judge A T J} {m : Meaning A T} {j k : J} {b c : B} {s0 : Standing A} {f0 : Health} {s : Standing A} {f : Health}
    (closes : Standing A → Standing A → Type 0) (ended : J → Type 0) (h : Gathering puts judge m j k b c s0 f0 s f) where
  -- the list ends with this item
  pub ends_with : {v : T} {t : Standing A} {g : Health} {d : B} {l : J} → Outcome m s f (Ok v) t g → judge k (taken_at v s t) true l → ended l → puts c v d
      → Outcome (MappedBy (λ xs z. FoldsTo puts b xs z) (Judged judge closes ended j m)) s0 f0 (Ok d) t g
  ends_with {v} {t} {g} {d} {l} o y z p = let a = meant o in
      held_ok (Quiet (EndsWith h.items (taken_at v s t) k l (turn_on h a.0) h.on y z refl refl) (no_fewer_on f0 f g h.calm a.1)) (put_on h t p)

  -- it closes before the next item
  pub closed : {t : Standing A} {g : Health} → closes s t → ended k → DeviceKept f g → Outcome (MappedBy (λ xs z. FoldsTo puts b xs z) (Judged judge closes ended j m)) s0 f0 (Ok c) t g
  closed {t} {g} p z q = held_ok (Quiet (Closes h.items k s h.turn h.on p z refl refl) (no_fewer_on f0 f g h.calm q)) h.put

  -- the next item is refused
  pub item_refused : {e : DekuError} {t : Standing A} {g : Health} → Outcome m s f (Err e) t g → ended k → Outcome (MappedBy (λ xs z. FoldsTo puts b xs z) (Judged judge closes ended j m)) s0 f0 (Err e) t g
  item_refused {e} {g} (Quiet p q) z = held_err (Quiet (ItemRefused h.items k s e h.turn h.on p z refl) (no_fewer_on f0 f g h.calm q))
  item_refused {e} {g} (Broken a p q) z = held_err (Broken (broken_at a) (ItemRefused h.items k s e h.turn h.on p z refl) (more_on f0 f g h.calm q))

  -- it is not put in its place: it has no width and does not end the list, or no memory is found
  pub not_kept : {v : T} {t : Standing A} {g : Health} {l : J} {e : DekuError} (x : Bool) (n o : ℕ) → n ≡ count_of s → o ≡ count_of t → Outcome m s f (Ok v) t g → judge k (taken_at v s t) x l → ended l
      → ((x ≡ false) × (o ≤ n) × Tells Parse (codes "item without width") e) ⊎ (((x ≡ true) ⊎ (n < o)) × (e ≡ Io OutOfMemory))
      → Outcome (MappedBy (λ xs z. FoldsTo puts b xs z) (Judged judge closes ended j m)) s0 f0 (Err e) t g
  not_kept {v} {t} {g} {l} {e} x n o before after q y z (inl p) = let a = meant q in
      held_err (Quiet (WithoutWidth h.items (taken_at v s t) k l e (turn_on h a.0) h.on (rw p.0 at y) (λ w. omega (arith, before, after, p.1, w)) p.2 z refl refl) (no_fewer_on f0 f g h.calm a.1))
  not_kept {v} {t} {g} {l} {e} x n o before after q y z (inr p) = let a = meant q in rw p.1
      (held_err (Quiet (Unplaced h.items (taken_at v s t) x k l (turn_on h a.0) h.on y (wide p.0) z refl refl) (no_fewer_on f0 f g h.calm a.1)))
    where
      wide : (x ≡ true) ⊎ (n < o) → (x ≡ true) ⊎ (count_of s < count_of t)
      wide (inl w) = inl w
      wide (inr w) = inr (omega (arith, before, after, w))

-- a limit that was left as one of which this holds
pub let_go : {A T J : Type 0} {judge : Judge A T J} {closes : Standing A → Standing A → Type 0} {j : J} {m : Meaning A T} {b : Bool} {s : Standing A} {r : Result (List T) DekuError} {u : Standing A}
    (ended : J → Type 0) (last : J) → ended last → Judged judge closes (λ k. k ≡ last) j m b s r u → Judged judge closes ended j m b s r u
let_go ended last h (EndsWith xs x k l p q y z e i) = EndsWith xs x k l p q y (rw z h) e i
let_go ended last h (Closes xs k t p q c z e i) = Closes xs k t p q c (rw z h) e i
let_go ended last h (ItemRefused xs k t e p q y z i) = ItemRefused xs k t e p q y (rw z h) i
let_go ended last h (WithoutWidth xs x k l e p q y w o z i v) = WithoutWidth xs x k l e p q y w o (rw z h) i v
let_go ended last h (Unplaced xs x v k l p q y w z i e) = Unplaced xs x v k l p q y w (rw z h) i e

pub held_let_go : {A T B J : Type 0} {h : List T → B → Type 0} {judge : Judge A T J} {closes : Standing A → Standing A → Type 0} {j : J} {m : Meaning A T} {s : Standing A} {f : Health} {r : Result B DekuError} {u : Standing A} {g : Health}
    (ended : J → Type 0) (last : J) → ended last → Outcome (MappedBy h (Judged judge closes (λ k. k ≡ last) j m)) s f r u g → Outcome (MappedBy h (Judged judge closes ended j m)) s f r u g
held_let_go ended last k (Quiet (ValueBy v w p h e) q) = Quiet (ValueBy v w (let_go ended last k p) h e) q
held_let_go ended last k (Quiet (RefusalBy x p e) q) = Quiet (RefusalBy x (let_go ended last k p) e) q
held_let_go ended last k (Broken a (ValueBy v w p h e) q) = Broken a (ValueBy v w (let_go ended last k p) h e) q
held_let_go ended last k (Broken a (RefusalBy x p e) q) = Broken a (RefusalBy x (let_go ended last k p) e) q

-- an item that is kept and does not end the list has width
pub wide_of_kept : (x : Bool) (n o p q : ℕ) → n ≡ p → o ≡ q → x ≡ false → (x ≡ true) ⊎ (n < o) → p < q
wide_of_kept x n o p q a b e (inl h) = let k : false ≡ true = sym e ∙ h in absurd (cc)
wide_of_kept x n o p q a b e (inr h) = omega (arith, a, b, h)

-- ---- counts
-- what a reader counts
pub counted : (remaining : Option (List ℕ)) (s : Standing (List Bool)) (n : ℕ) → n ≡ count_of s → n ≡ count_of (reader_state remaining s)
counted remaining (Going window count) n e = e
counted remaining (Stopped window fault count) n e = e

-- ---- bits
-- the counts of a reader say whether so many bits are read
pub judged_by_counts : (x : Bool) (start after n p q : ℕ) → start ≡ p → after ≡ q → (x ≡ true) ↔ (after ≡ start + n) → (x ≡ true) ↔ (q ≡ p + n)
judged_by_counts x start after n p q e f h = rw (e, f) at h

pub some_bits : {A T B : Type 0} {h : List T → B → Type 0} {m : Meaning A T} {s : Standing A} {f : Health} {r : Result B DekuError} {u : Standing A} {g : Health} (n : ℕ) → 0 < n
    → Outcome (MappedBy h (Judged {J = Unit {0}} (λ _ x v _. (v ≡ true) ↔ (count_of x.after ≡ count_of s + n)) (λ _ _. ⊥) (λ _. ⊤) tt m)) s f r u g → Outcome (MappedBy h (ReadsBitsOf n m)) s f r u g
some_bits n l (Quiet (ValueBy v w p k e) q) = Quiet (ValueBy v w (SomeBits l p) k e) q
some_bits n l (Quiet (RefusalBy e p i) q) = Quiet (RefusalBy e (SomeBits l p) i) q
some_bits n l (Broken a (ValueBy v w p k e) q) = Broken a (ValueBy v w (SomeBits l p) k e) q
some_bits n l (Broken a (RefusalBy e p i) q) = Broken a (RefusalBy e (SomeBits l p) i) q

pub no_bits : {A T B : Type 0} {puts : B → T → B → Type 0} {m : Meaning A T} {b : B} {s : Standing A} {f : Health} (n : ℕ) → n ≡ 0
    → Outcome (MappedBy (λ xs z. FoldsTo puts b xs z) (ReadsBitsOf n m)) s f (Ok b) s f
no_bits {f} n e = held_ok (Quiet (NoBits e Answered) (no_fewer_same f)) refl

-- a size of bytes whose bits can be counted
pub within_count : {T B : Type 0} {h : List T → B → Type 0} {m : Meaning (Option Stream) T} {s : Standing (Option Stream)} {f : Health} {r : Result B DekuError} {u : Standing (Option Stream)} {g : Health}
    (n bits : ℕ) → bits < 2 ^ 64 → bits ≡ 8 * n → Outcome (MappedBy h (ReadsBitsOf bits m)) s f r u g
    → Outcome (MappedBy h (Checked (PastCount n) (λ b s r u. (8 * n < 2 ^ 64) × ReadsBitsOf (8 * n) m b s r u))) s f r u g
within_count n bits l e (Quiet (ValueBy v w p k i) q) = Quiet (ValueBy v w (Passed (rw e at l, rw e at p)) k i) q
within_count n bits l e (Quiet (RefusalBy x p i) q) = Quiet (RefusalBy x (Passed (rw e at l, rw e at p)) i) q
within_count n bits l e (Broken a (ValueBy v w p k i) q) = Broken a (ValueBy v w (Passed (rw e at l, rw e at p)) k i) q
within_count n bits l e (Broken a (RefusalBy x p i) q) = Broken a (RefusalBy x (Passed (rw e at l, rw e at p)) i) q

-- a size of bytes whose bits cannot
pub past_count : {T B : Type 0} {h : List T → B → Type 0} {m : Meaning (Option Stream) T} {s : Standing (Option Stream)} {f : Health}
    (n : ℕ) (words : Bor (List ℕ)) → words.now ≡ codes "count past usize" → 2 ^ 64 ≤ 8 * n
    → Outcome (MappedBy h (Checked (PastCount n) (λ b s r u. (8 * n < 2 ^ 64) × ReadsBitsOf (8 * n) m b s r u))) s f (Err (InvalidParam words)) s f
past_count {f} n words e l = held_err (Quiet (Refused refl (l, (words, e, refl, refl))) (no_fewer_same f))

-- ---- the end of the stream
-- a look finds that more is to come
pub more_to_come : {s : Standing (Option Stream)} {f : Health} {u : Standing (Option Stream)} {g : Health} → Outcome Ending s f (Ok false) u g → Outcome MoreToCome s f (Ok tt) u g
more_to_come (Quiet p q) = Quiet p q
more_to_come (Broken a p q) = absurd (no_ok a)

-- it is refused
pub look_refused : {s : Standing (Option Stream)} {f : Health} {e : DekuError} {u : Standing (Option Stream)} {g : Health} → Outcome Ending s f (Err e) u g → Outcome MoreToCome s f (Err e) u g
look_refused (Quiet p q) = Quiet p q
look_refused (Broken a p q) = Broken (broken_at a) p q

-- it counts nothing
pub look_counts_nothing : (s : Standing (Option Stream)) (x : Bool) (u : Standing (Option Stream)) → Ending false s (Ok x) u → count_of u ≡ count_of s
look_counts_nothing (Going None c) x u p = let e = p.3 in rw e refl
look_counts_nothing (Going (Some S) c) x u p = let e = p.1 in rw e refl
look_counts_nothing (Stopped S fault c) x u p = let e = p.1 in rw e refl
