-- Records, written one after the other: what is known on the way.
use Rattle.std.proofs.Common.{◌≡◌, ℕ, suc, ◌+◌, ◌-◌, ◌<◌, ◌≤◌, Result, Ok, Err, List, [], ◌∷◌, ◌++◌, length, take, drop, refl, ap, sym, ◌∙◌, subst, arith, length-drop}
use Rattle.std.proofs.lemmas.List.{drop-drop}
use Rattle.deku_bits.specs.declared.error.DekuError.{DekuError}
use Rattle.deku_bits.specs.Devices.{Health}
use Rattle.deku_bits.specs.Standings.{Standing, Output}
use Rattle.deku_bits.specs.Outcomes.{Outcome}
use Rattle.deku.proofs.Joining.{answered}
use Rattle.deku_fields.specs.declared.list.Number.{Number}
use Rattle.deku_fields.specs.declared.list.Field.{Field}
use Rattle.deku_fields.specs.declared.list.Item.{Item}
use Rattle.deku_fields.specs.ListCalls.{WritesItems}
use Rattle.deku_fields.proofs.Cuts.{write_calls}
use Rattle.deku_plan.specs.Plans.{item, items}
use Rattle.deku_plan.specs.Records.{records}

-- the items of fields in front are those of the values in front
pub items_cut : (fs gs : List Field) (ns : List Number) → length fs ≤ length ns → items (fs ++ gs) ns ≡ items fs (take (length fs) ns) ++ items gs (drop (length fs) ns)
items_cut [] gs ns h = refl
items_cut (f ∷ fs) gs [] h = absurd (omega (arith, h))
items_cut (f ∷ fs) gs (n ∷ ns) h = ap (λ x. item f n ∷ x) (items_cut fs gs ns (omega (arith, h)))

-- the records from the i-th on may follow, with the values from a place on
abbrev pub GoesOn : List Field → ℕ → List Number → ℕ → ℕ → Standing Output → Health → Standing Output → Health → Type 0
GoesOn fs count ns i place s0 f0 s f = (r : Result (Unit {0}) DekuError) (u : Standing Output) (h : Health)
    → Outcome (WritesItems (items (records (count - i) fs) (drop place ns))) s f r u h → Outcome (WritesItems (items (records count fs) ns)) s0 f0 r u h

pub goes_first : (fs : List Field) (count : ℕ) (ns : List Number) (s : Standing Output) (f : Health) → GoesOn fs count ns 0 0 s f s f
goes_first fs count ns s f r u h o =
    let all : count - 0 ≡ count = omega arith in
    subst (λ k. Outcome (WritesItems (items (records k fs) ns)) s f r u h) all o

-- the items of the next record, and of those after it
next_items : (fs : List Field) (count i place : ℕ) (ns : List Number) → i < count → length fs ≤ length ns - place
    → items (records (count - i) fs) (drop place ns) ≡ items fs (take (length fs) (drop place ns)) ++ items (records (count - (i + 1)) fs) (drop (place + length fs) ns)
next_items fs count i place ns l h =
    let next : count - i ≡ suc (count - (i + 1)) = omega (arith, l) in
    ap (λ k. items (records k fs) (drop place ns)) next
    ∙ items_cut fs (records (count - (i + 1)) fs) (drop place ns) (omega (arith, h, length-drop place ns))
    ∙ ap (λ x. items fs (take (length fs) (drop place ns)) ++ items (records (count - (i + 1)) fs) x) (drop-drop (length fs) place ns)

pub goes_more : (fs : List Field) (count i place next : ℕ) (ns ms : List Number) (s0 : Standing Output) (f0 : Health) (s : Standing Output) (f : Health) (t : Standing Output) (g : Health)
    → i < count → length fs ≤ length ns - place → next ≡ place + length fs → ms ≡ take (length fs) (drop place ns) → GoesOn fs count ns i place s0 f0 s f
    → Outcome (WritesItems (items fs ms)) s f (Ok tt) t g → GoesOn fs count ns (i + 1) next s0 f0 t g
goes_more fs count i place next ns ms s0 f0 s f t g l enough e is k o r u h p =
    let rest : List Item = items (records (count - (i + 1)) fs) (drop (place + length fs) ns) in
    let first : Outcome (WritesItems (items fs (take (length fs) (drop place ns)))) s f (Ok tt) t g = subst (λ x. Outcome (WritesItems (items fs x)) s f (Ok tt) t g) is o in
    let others : Outcome (WritesItems rest) t g r u h = subst (λ x. Outcome (WritesItems (items (records (count - (i + 1)) fs) (drop x ns))) t g r u h) e p in
    k r u h (subst (λ x. Outcome (WritesItems x) s f r u h) (sym (next_items fs count i place ns l enough))
    (write_calls.both (items fs (take (length fs) (drop place ns))) rest s t u f g h r first others))

pub goes_not : (fs : List Field) (count i place : ℕ) (ns ms : List Number) (e : DekuError) (s0 : Standing Output) (f0 : Health) (s : Standing Output) (f : Health) (t : Standing Output) (g : Health)
    → i < count → length fs ≤ length ns - place → ms ≡ take (length fs) (drop place ns) → GoesOn fs count ns i place s0 f0 s f
    → Outcome (WritesItems (items fs ms)) s f (Err e) t g → Outcome (WritesItems (items (records count fs) ns)) s0 f0 (Err e) t g
goes_not fs count i place ns ms e s0 f0 s f t g l enough is k o =
    let rest : List Item = items (records (count - (i + 1)) fs) (drop (place + length fs) ns) in
    let first : Outcome (WritesItems (items fs (take (length fs) (drop place ns)))) s f (Err e) t g = subst (λ x. Outcome (WritesItems (items fs x)) s f (Err e) t g) is o in
    k (Err e) t g (subst (λ x. Outcome (WritesItems x) s f (Err e) t g) (sym (next_items fs count i place ns l enough))
    (write_calls.refused (items fs (take (length fs) (drop place ns))) rest s t f g e first))

pub goes_last : (fs : List Field) (count i place : ℕ) (ns : List Number) (s0 : Standing Output) (f0 : Health) (s : Standing Output) (f : Health)
    → count ≤ i → GoesOn fs count ns i place s0 f0 s f → Outcome (WritesItems (items (records count fs) ns)) s0 f0 (Ok tt) s f
goes_last fs count i place ns s0 f0 s f l k =
    let none : count - i ≡ 0 = omega (arith, l) in
    k (Ok tt) s f (subst (λ x. Outcome (WritesItems (items (records x fs) (drop place ns))) s f (Ok tt) s f) (sym none) answered)
