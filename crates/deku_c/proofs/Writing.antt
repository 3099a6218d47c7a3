-- Writing one item after the other, from the laws that public calls ensure.
use Rattle.std.proofs.Common.{◌≡◌, ℕ, ◌+◌, ◌<◌, ◌≤◌, List, [], ◌∷◌, ◌++◌, length, take, drop, get_or, Option, Some, None, Result, Ok, Err, refl, ap, ap₂, sym, ◌∙◌, subst, subst₂, arith, ⊎_elim}
use Rattle.std.proofs.lemmas.List.{take_all, take_more, drop_more, take-append-drop, length-take-le}
use Rattle.std.proofs.lemmas.Bool.{cases_lt, lt-leb, le-leb}
use Rattle.std.specs.Io.KnownBytes.{Appends}
use Rattle.deku_bits.specs.declared.error.DekuError.{DekuError}
use Rattle.deku_bits.specs.Devices.{Health, bytes_before, Shrinks}
use Rattle.deku_bits.specs.Standings.{Standing, Going, Output}
use Rattle.deku_bits.specs.Outcomes.{Outcome}
use Rattle.deku_bits.specs.WriterCalls.{Finalizes}
use Rattle.deku.specs.Composing.{Both}
use Rattle.deku.specs.Wholes.{WritesOver, over}
use Rattle.deku.proofs.Joining.{answered}
use Rattle.deku_fields.specs.declared.list.Item.{Item}
use Rattle.deku_fields.specs.ListCalls.{WritesItems}
use Rattle.deku_fields.specs.Cuts.{WriteCallsLaw}
use Rattle.deku_fields.specs.Promise.{AreWritable, PaddedLaw}
use Rattle.deku_c.specs.declared.codes.FieldCode.{FieldCode}
use Rattle.deku_c.specs.declared.codes.NumberCode.{NumberCode}
use Rattle.deku_c.specs.Codes.{item_in, items_in}
use Rattle.deku_c.specs.Calls.{LaysOver}
use Rattle.deku_c.proofs.Coding.{items_more, items_cut}

-- ---- items
-- the first i items were written
abbrev pub WrittenSoFar : List FieldCode → List NumberCode → ℕ → Standing Output → Health → Standing Output → Health → Type 0
WrittenSoFar cs vs i s0 f0 s f = Outcome (WritesItems (items_in (take i cs) (take i vs))) s0 f0 (Ok tt) s f

pub none_written : (cs : List FieldCode) (vs : List NumberCode) (s : Standing Output) (f : Health) → WrittenSoFar cs vs 0 s f s f
none_written cs vs s f = answered

pub one_more : WriteCallsLaw → (cs : List FieldCode) (vs : List NumberCode) (i : ℕ) (d : FieldCode) (v : NumberCode) {s0 : Standing Output} {f0 : Health} {s : Standing Output} {f : Health} {t : Standing Output} {g : Health}
    → i < length cs → i < length vs → WrittenSoFar cs vs i s0 f0 s f → Outcome (WritesItems (item_in (get_or cs i d) (get_or vs i v) ∷ [])) s f (Ok tt) t g
    → WrittenSoFar cs vs (i + 1) s0 f0 t g
one_more law cs vs i d v {s0} {f0} {s} {f} {t} {g} l m before o =
    let one : Item = item_in (get_or cs i d) (get_or vs i v) in
    let items : List Item = items_in (take i cs) (take i vs) in
    let both = law.both items (one ∷ []) s0 s t f0 f g (Ok tt) before o in
    let next : items_in (take (i + 1) cs) (take (i + 1) vs) ≡ items ++ one ∷ [] = items_more cs vs vs i d (get_or vs i v) l m (take_more vs i v m) in
    subst (λ x. Outcome (WritesItems x) s0 f0 (Ok tt) t g) (sym next) both

pub one_refused : WriteCallsLaw → (cs : List FieldCode) (vs : List NumberCode) (i : ℕ) (d : FieldCode) (v : NumberCode) (e : DekuError) {s0 : Standing Output} {f0 : Health} {s : Standing Output} {f : Health} {t : Standing Output} {g : Health}
    → i < length cs → i < length vs → WrittenSoFar cs vs i s0 f0 s f → Outcome (WritesItems (item_in (get_or cs i d) (get_or vs i v) ∷ [])) s f (Err e) t g
    → Outcome (WritesItems (items_in cs vs)) s0 f0 (Err e) t g
one_refused law cs vs i d v e {s0} {f0} {s} {f} {t} {g} l m before o =
    let one : Item = item_in (get_or cs i d) (get_or vs i v) in
    let behind = law.refused (one ∷ []) (items_in (drop (i + 1) cs) (drop (i + 1) vs)) s t f g e o in
    let rest : items_in (drop i cs) (drop i vs) ≡ one ∷ items_in (drop (i + 1) cs) (drop (i + 1) vs) = ap₂ (λ a b. items_in a b) (drop_more cs i d l) (drop_more vs i v m) in
    let others : Outcome (WritesItems (items_in (drop i cs) (drop i vs))) s f (Err e) t g = subst (λ x. Outcome (WritesItems x) s f (Err e) t g) (sym rest) behind in
    let all = law.both (items_in (take i cs) (take i vs)) (items_in (drop i cs) (drop i vs)) s0 s t f0 f g (Err e) before others in
    subst (λ x. Outcome (WritesItems x) s0 f0 (Err e) t g) (sym (items_cut i cs vs)) all

pub all_written : (cs : List FieldCode) (vs : List NumberCode) (i : ℕ) {s0 : Standing Output} {f0 : Health} {s : Standing Output} {f : Health}
    → length cs ≤ i → length vs ≤ i → WrittenSoFar cs vs i s0 f0 s f → Outcome (WritesItems (items_in cs vs)) s0 f0 (Ok tt) s f
all_written cs vs i {s0} {f0} {s} {f} l m o =
    subst₂ (λ x y. Outcome (WritesItems (items_in x y)) s0 f0 (Ok tt) s f) (take_all i cs l) (take_all i vs m) o

-- ---- over a slice
appended : (bytes : List ℕ) (t : Option (List ℕ)) → Appends (Some []) t bytes → t ≡ Some bytes
appended bytes None g = absurd g
appended bytes (Some ys) g = ap Some g

outputs : (a b : Output) (m n : ℕ) → ◌≡◌ {A = Standing Output} (Going a m) (Going b n) → a ≡ b
outputs a b m n e = cc

-- the bytes before a place, which is not past the end
before_place : (n : ℕ) (xs bytes : List ℕ) → bytes_before n xs ≡ Some bytes → (n ≡ length bytes) × (take n xs ≡ bytes)
before_place n xs bytes e = ⊎_elim
    (λ (past : length xs < n). absurd (let k = rw (lt-leb n (length xs) past) at e in cc))
    (λ (inside : n ≤ length xs).
    let k = rw (le-leb n (length xs) inside) at e in
    let same : take n xs ≡ bytes = cc in
    (sym (length-take-le n xs inside) ∙ ap length same, same))
    (cases_lt (length xs) n)

-- the room of a slice after bytes were taken
room_left : (old : List ℕ) (r : Option (List ℕ)) (n : ℕ) (rest : List ℕ) → Shrinks (Some old) r n → r ≡ Some rest → rest ≡ drop n old
room_left old None n rest k e = absurd k
room_left old (Some x) n rest k e = let f : x ≡ rest = cc in sym f ∙ k.1

pub laid_over : PaddedLaw → (items : List Item) (old : List ℕ) (r : Result ℕ DekuError) (new : List ℕ) → WritesOver (Both (WritesItems items) Finalizes) old r new → LaysOver items old r new
laid_over law items old (Ok n) new (out, c, m, taken, room) fitting aligned laid is enough small =
    let writable : AreWritable items laid (over old) 0 = record { fitting = fitting; aligned = aligned; laid = is; none = refl; room = enough; countable = omega (arith, small) } in
    ⊎_elim
    (λ p.
    let same : out ≡ p.1.0 = outputs out p.1.0 c _ p.1.2 in
    let before : bytes_before n new ≡ Some laid = sym taken ∙ ap (λ o. o.taken) same ∙ appended laid p.1.0.taken p.1.1.taken in
    let k = before_place n new laid before in
    let left : drop n new ≡ drop (length laid) old = room_left old p.1.0.room (length laid) (drop n new) p.1.1.room (sym (ap (λ o. o.room) same) ∙ room) in
    (ap Ok k.0, sym (take-append-drop n new) ∙ ap₂ (λ x y. x ++ y) k.1 left))
    (λ other. absurd other)
    (law items laid (over old) 0 (Ok tt) (Going out c) writable m)
laid_over law items old (Err e) new (u, m, n, taken, room) fitting aligned laid is enough small =
    let writable : AreWritable items laid (over old) 0 = record { fitting = fitting; aligned = aligned; laid = is; none = refl; room = enough; countable = omega (arith, small) } in
    ⊎_elim (λ p. absurd (let f = p.0 in cc)) (λ other. absurd other) (law items laid (over old) 0 (Err e) u writable m)
