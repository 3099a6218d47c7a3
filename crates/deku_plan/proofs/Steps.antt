-- Fields and their steps.
use Rattle.std.proofs.Common.{◌≡◌, ℕ, zero, suc, ◌+◌, ◌<◌, List, [], ◌∷◌, ◌++◌, length, map, take, get_or, All, refl, ap, ap₂, sym, ◌∙◌, subst, arith, take-append-drop, drop, ◌≤◌, min, false}
use Rattle.std.proofs.lemmas.List.{take_more}
use Rattle.std.proofs.lemmas.List.Elements.{All-nil, All-cons}
use Rattle.deku_bits.specs.Pieces.{total}
use Rattle.deku_bits.specs.declared.ctx.Order.TheVariants.{Msb0}
use Rattle.deku_num.specs.declared.ctx.Endian.TheVariants.{Little}
use Rattle.deku_num.specs.declared.ctx.Size.TheVariants.{Whole}
use Rattle.deku_fields.specs.declared.list.Kind.{Kind}
use Rattle.deku_fields.specs.declared.list.Kind.TheVariants.{U8, U16, U32, U64, U128, Usize, I8, I16, I32, I64, I128, Isize}
use Rattle.deku_fields.specs.declared.list.Field.{Field}
use Rattle.deku_fields.specs.Items.{number_type, field_shape, IsAllowedField}
use Rattle.deku_plan.specs.declared.step.Step.{Step}
use Rattle.deku_plan.specs.Plans.{IsStepOf, AreSteps, AreFirsts, widths}

pub steps_long : (fs : List Field) (ss : List Step) → AreSteps fs ss → length ss ≡ length fs
steps_long [] [] h = refl
steps_long [] (s ∷ ss) h = absurd h
steps_long (f ∷ fs) [] h = absurd h
steps_long (f ∷ fs) (s ∷ ss) h = ap suc (steps_long fs ss h.1)

pub step_at : (fs : List Field) (ss : List Step) (i : ℕ) (d : Field) (e : Step) → AreSteps fs ss → i < length fs → IsStepOf (get_or fs i d) (get_or ss i e)
step_at [] ss i d e h l = absurd (omega arith)
step_at (f ∷ fs) [] i d e h l = absurd h
step_at (f ∷ fs) (s ∷ ss) zero d e h l = h.0
step_at (f ∷ fs) (s ∷ ss) (suc i) d e h l = step_at fs ss i d e h.1 (omega arith)

pub all_allowed : (fs : List Field) (ss : List Step) → AreSteps fs ss → All IsAllowedField fs
all_allowed [] ss h = All-nil IsAllowedField
all_allowed (f ∷ fs) [] h = absurd h
all_allowed (f ∷ fs) (s ∷ ss) h = All-cons IsAllowedField f fs h.0.allowed (all_allowed fs ss h.1)

pub widths_total : (fs : List Field) (ss : List Step) → AreSteps fs ss → widths ss ≡ total (map field_shape fs)
widths_total [] [] h = refl
widths_total [] (s ∷ ss) h = absurd h
widths_total (f ∷ fs) [] h = absurd h
widths_total (f ∷ fs) (s ∷ ss) h = ap₂ (λ x y. x + y) h.0.wide (widths_total fs ss h.1)

steps_push : (fs : List Field) (ss : List Step) (f : Field) (s : Step) → AreSteps fs ss → IsStepOf f s → AreSteps (fs ++ f ∷ []) (ss ++ s ∷ [])
steps_push [] [] f s h k = (k, tt)
steps_push [] (t ∷ ss) f s h k = absurd h
steps_push (g ∷ fs) [] f s h k = absurd h
steps_push (g ∷ fs) (t ∷ ss) f s h k = (h.0, steps_push fs ss f s h.1 k)

-- one field more
pub steps_more : (fs : List Field) (i : ℕ) (d : Field) (ss : List Step) (s : Step) → i < length fs → AreSteps (take i fs) ss → IsStepOf (get_or fs i d) s → AreSteps (take (i + 1) fs) (ss ++ s ∷ [])
steps_more fs i d ss s l h k = subst (λ x. AreSteps x (ss ++ s ∷ [])) (sym (take_more fs i d l)) (steps_push (take i fs) ss (get_or fs i d) s h k)

-- ---- widths
widths_append : (ss ts : List Step) → widths (ss ++ ts) ≡ widths ss + widths ts
widths_append [] ts = omega arith
widths_append (s ∷ ss) ts =
    let sum3 : s.width + (widths ss + widths ts) ≡ s.width + widths ss + widths ts = omega arith in
    ap (λ n. s.width + n) (widths_append ss ts) ∙ sum3

abbrev pub no_field : Field
no_field = record { kind = U8; layout = record { endian = Little; order = Msb0; size = Whole } }

abbrev pub no_step : Step
no_step = record { width = 0; high = false; mask = 0; first = 0 }

pub widths_more : (ss : List Step) (i : ℕ) (d : Step) → i < length ss → widths (take (i + 1) ss) ≡ widths (take i ss) + (get_or ss i d).width
widths_more ss i d h =
    let one : widths (get_or ss i d ∷ []) ≡ (get_or ss i d).width = omega arith in
    ap widths (take_more ss i d h) ∙ widths_append (take i ss) (get_or ss i d ∷ []) ∙ ap (λ n. widths (take i ss) + n) one

pub widths_front : (ss : List Step) (i : ℕ) → widths (take i ss) ≤ widths ss
widths_front ss i =
    let whole : widths ss ≡ widths (take i ss) + widths (drop i ss) = ap widths (sym (take-append-drop i ss)) ∙ widths_append (take i ss) (drop i ss) in
    omega (arith, whole)

-- the widths of steps in front are those of the fields
pub widths_take : (fs : List Field) (ss : List Step) (i : ℕ) → AreSteps fs ss → widths (take i ss) ≡ total (map field_shape (take i fs))
widths_take fs ss zero h = refl
widths_take [] [] (suc i) h = refl
widths_take [] (s ∷ ss) (suc i) h = absurd h
widths_take (f ∷ fs) [] (suc i) h = absurd h
widths_take (f ∷ fs) (s ∷ ss) (suc i) h = ap₂ (λ x y. x + y) h.0.wide (widths_take fs ss i h.1)

-- ---- how many bits are before a step
firsts_push : (b : ℕ) (ss : List Step) (s : Step) → AreFirsts b ss → s.first ≡ b + widths ss → AreFirsts b (ss ++ s ∷ [])
firsts_push b [] s h e = (omega (arith, e), tt)
firsts_push b (t ∷ ss) s h e = (h.0, firsts_push (b + t.width) ss s h.1 (omega (arith, e)))

-- the steps so far, with how many bits they have, as long as a number of 64 bits can count them
abbrev pub AreCounted : ℕ → List Step → Type 0
AreCounted first ss = widths ss < 18446744073709551616 → (first ≡ widths ss) × AreFirsts 0 ss

pub counted_more : (first next : ℕ) (ss : List Step) (s : Step) → AreCounted first ss → s.first ≡ first → next ≡ min (first + s.width) 18446744073709551615 → AreCounted next (ss ++ s ∷ [])
counted_more first next ss s h is e small =
    let more : widths (ss ++ s ∷ []) ≡ widths ss + widths (s ∷ []) = widths_append ss (s ∷ []) in
    let before = h (omega (arith, small, more)) in
    (omega (arith, e, before.0, small, more), firsts_push 0 ss s before.1 (omega (arith, is, before.0)))

pub first_at : (b : ℕ) (ss : List Step) (i : ℕ) (d : Step) → AreFirsts b ss → i < length ss → (get_or ss i d).first ≡ b + widths (take i ss)
first_at b [] i d h l = absurd (omega (arith, l))
first_at b (s ∷ ss) zero d h l = omega (arith, h.0)
first_at b (s ∷ ss) (suc i) d h l = let r = first_at (b + s.width) ss i d h.1 (omega (arith, l)) in omega (arith, r)

-- ---- no type has more than 128 bits
few_bits : (k : Kind) → (number_type k).bits ≤ 128
few_bits U8 = omega arith
few_bits U16 = omega arith
few_bits U32 = omega arith
few_bits U64 = omega arith
few_bits U128 = omega arith
few_bits Usize = omega arith
few_bits I8 = omega arith
few_bits I16 = omega arith
few_bits I32 = omega arith
few_bits I64 = omega arith
few_bits I128 = omega arith
few_bits Isize = omega arith

pub step_small : (fs : List Field) (ss : List Step) (i : ℕ) (d : Field) (e : Step) → AreSteps fs ss → i < length fs → (get_or ss i e).width ≤ 128
step_small fs ss i d e h l =
    let s = step_at fs ss i d e h l in
    omega (arith, s.wide, s.allowed.within, few_bits (get_or fs i d).kind)
