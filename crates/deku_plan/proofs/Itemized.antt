-- Fields with their values, as items.
use Rattle.std.proofs.Common.{◌≡◌, ℕ, zero, suc, ◌+◌, ◌<◌, ◌≤◌, Bool, Result, Ok, Err, List, [], ◌∷◌, length, get_or, refl, ap, sym, subst, arith}
use Rattle.deku_bits.specs.declared.error.DekuError.{DekuError}
use Rattle.deku_bits.specs.Devices.{Health}
use Rattle.deku_bits.specs.Standings.{Standing, Output}
use Rattle.deku_bits.specs.Outcomes.{Outcome}
use Rattle.deku_bits.proofs.Handing.{weaker}
use Rattle.deku.specs.Composing.{Answered, Second, First}
use Rattle.deku_fields.specs.declared.list.Number.{Number}
use Rattle.deku_fields.specs.declared.list.Field.{Field}
use Rattle.deku_fields.specs.declared.list.Item.{Item}
use Rattle.deku_fields.specs.ListCalls.{WritesItem, WritesItems}
use Rattle.deku_fields.proofs.Stepping.{GoesOn, item_written, item_refused, items_written}
use Rattle.deku_plan.specs.Plans.{item, items}

pub items_long : (fs : List Field) (ns : List Number) → length ns ≡ length fs → length (items fs ns) ≡ length fs
items_long [] ns l = refl
items_long (f ∷ fs) [] l = absurd (omega (arith, l))
items_long (f ∷ fs) (n ∷ ns) l = ap suc (items_long fs ns (omega (arith, l)))

pub item_at : (fs : List Field) (ns : List Number) (i : ℕ) (f : Field) (n : Number) → length ns ≡ length fs → i < length fs → get_or (items fs ns) i (item f n) ≡ item (get_or fs i f) (get_or ns i n)
item_at [] ns i f n l h = absurd (omega (arith, h))
item_at (g ∷ fs) [] i f n l h = absurd (omega (arith, l))
item_at (g ∷ fs) (m ∷ ns) zero f n l h = refl
item_at (g ∷ fs) (m ∷ ns) (suc i) f n l h = item_at fs ns i f n (omega (arith, l)) (omega (arith, h))

-- a list of one item
only : (i : Item) (b : Bool) (s : Standing Output) (r : Result (Unit {0}) DekuError) (u : Standing Output) → WritesItems (i ∷ []) b s r u → WritesItem i b s r u
only i b s r u (Second v t p Answered) = p
only i b s r u (First e p q) = subst (λ x. WritesItem i b s x u) (sym q) p

pub one_item : (i : Item) {s : Standing Output} {f : Health} {r : Result (Unit {0}) DekuError} {u : Standing Output} {g : Health} → Outcome (WritesItems (i ∷ [])) s f r u g → Outcome (WritesItem i) s f r u g
one_item i {s} {f} {r} {u} {g} o = weaker (WritesItems (i ∷ [])) (WritesItem i) s f r u g (λ b m. only i b s r u m) o

-- ---- fields that are written one after the other
pub next_written : (fs : List Field) (ns : List Number) (i : ℕ) (f : Field) (n : Number) (s0 : Standing Output) (f0 : Health) (s : Standing Output) (h : Health) (t : Standing Output) (g : Health)
    → length ns ≡ length fs → i < length fs → GoesOn (items fs ns) i s0 f0 s h → Outcome (WritesItem (item (get_or fs i f) (get_or ns i n))) s h (Ok tt) t g → GoesOn (items fs ns) (i + 1) s0 f0 t g
next_written fs ns i f n s0 f0 s h t g l lt k o =
    item_written (items fs ns) i (item f n) s0 f0 s h t g (omega (arith, lt, items_long fs ns l)) k
    (subst (λ x. Outcome (WritesItem x) s h (Ok tt) t g) (sym (item_at fs ns i f n l lt)) o)

pub next_refused : (fs : List Field) (ns : List Number) (i : ℕ) (f : Field) (n : Number) (e : DekuError) (s0 : Standing Output) (f0 : Health) (s : Standing Output) (h : Health) (t : Standing Output) (g : Health)
    → length ns ≡ length fs → i < length fs → GoesOn (items fs ns) i s0 f0 s h → Outcome (WritesItem (item (get_or fs i f) (get_or ns i n))) s h (Err e) t g → Outcome (WritesItems (items fs ns)) s0 f0 (Err e) t g
next_refused fs ns i f n e s0 f0 s h t g l lt k o =
    item_refused (items fs ns) i (item f n) e s0 f0 s h t g (omega (arith, lt, items_long fs ns l)) k
    (subst (λ x. Outcome (WritesItem x) s h (Err e) t g) (sym (item_at fs ns i f n l lt)) o)

pub all_written : (fs : List Field) (ns : List Number) (i : ℕ) (s0 : Standing Output) (f0 : Health) (s : Standing Output) (h : Health)
    → length ns ≡ length fs → length fs ≤ i → GoesOn (items fs ns) i s0 f0 s h → Outcome (WritesItems (items fs ns)) s0 f0 (Ok tt) s h
all_written fs ns i s0 f0 s h l le k = items_written (items fs ns) i s0 f0 s h (omega (arith, le, items_long fs ns l)) k
