-- Runs that grow place by place, and rows that are laid one below the other.
use Rattle.std.proofs.Common.{ℕ, ◌+◌, ◌-◌, ◌<◌, ◌≤◌, ◌≡◌, List, [], ◌∷◌, ◌++◌, length, min, take, drop, get_or, flat_map, All, Option, Some, None, IfSome, refl, ap, sym, ◌∙◌, subst, arith, add-one, append_assoc, take-append-drop}
use Rattle.std.specs.Global.{Vec}
use Rattle.std.proofs.lemmas.List.{flat_map_more, take_at, take_more, take_min, drop_min}
use Rattle.std.proofs.lemmas.List.Elements.{All-push, All-take}
use Rattle.deku_fields.specs.declared.picture.Place.{Place}
use Rattle.deku_picture.specs.declared.cell.Cell.{Cell}
use Rattle.deku_picture.specs.Cells.{behind, run, places_of, IsRun, Extends, AreApart, AreCells, AreRows, places_in}

-- the cell of one place
abbrev pub one_place : Option Place → Cell
one_place p = record { first = p; width = 1 }

-- the cell with one place more
abbrev pub wider : Cell → Cell
wider c = record { first = c.first; width = c.width + 1 }

-- ---- places
place_here : (p : Option Place) → behind 0 p ≡ p
place_here None = refl
place_here (Some p) = let e : p.bit - 0 ≡ p.bit = omega arith in ap (λ b. Some (record { field = p.field; bit = b })) e

pub one_laid : (p : Option Place) → places_of (one_place p) ≡ p ∷ []
one_laid p = ap (λ q. q ∷ []) (place_here p)

next_place : (n : ℕ) (p q : Option Place) → Extends n p q → behind n p ≡ q
next_place n None None h = refl
next_place n None (Some q) h = absurd h
next_place n (Some p) None h = absurd h
next_place n (Some p) (Some q) h =
    let bit : p.bit - n ≡ q.bit = omega (arith, h.1) in
    ap (λ b. Some (record { field = p.field; bit = b })) bit ∙ ap (λ f. Some (record { field = f; bit = q.bit })) h.0

run_more : (n : ℕ) (p : Option Place) → run (n + 1) p ≡ run n p ++ behind n p ∷ []
run_more n p = rw add-one refl

laid_more : (cs : List Cell) (c : Cell) → flat_map places_of (cs ++ c ∷ []) ≡ flat_map places_of cs ++ places_of c
laid_more cs c = sym (flat_map_more places_of [] cs c)

-- ---- runs
one_run : (p : Option Place) → IsRun (one_place p)
one_run None = record { some = omega arith; low = tt }
one_run (Some p) = record { some = omega arith; low = omega arith }

wider_run : (c : Cell) (q : Option Place) → Extends c.width c.first q → IsRun (wider c)
wider_run c q h = record { some = omega arith; low = low c.first q h }
  where
    low : (p q : Option Place) → Extends c.width p q → IfSome p (λ p. c.width + 1 ≤ p.bit + 1)
    low None q h = tt
    low (Some p) None h = absurd h
    low (Some p) (Some q) h = omega (arith, h.1)

last_run : (cs : List Cell) (c : Cell) → All IsRun (cs ++ c ∷ []) → All IsRun cs
last_run cs c all = subst (All IsRun) (take_at cs (c ∷ []) (length cs) refl) (All-take IsRun (length cs) (cs ++ c ∷ []) all)

-- ---- apart
apart_wider : (cs : List Cell) (c : Cell) → AreApart (cs ++ c ∷ []) → AreApart (cs ++ wider c ∷ [])
apart_wider [] c a = tt
apart_wider (b ∷ []) c a = (a.0, tt)
apart_wider (b ∷ d ∷ cs) c a = (a.0, apart_wider (d ∷ cs) c a.1)

apart_more : (cs : List Cell) (c : Cell) (q : Option Place) → AreApart (cs ++ c ∷ []) → (Extends c.width c.first q → ⊥) → AreApart ((cs ++ c ∷ []) ++ one_place q ∷ [])
apart_more [] c q a h = (h, tt)
apart_more (b ∷ []) c q a h = (a.0, (h, tt))
apart_more (b ∷ d ∷ cs) c q a h = (a.0, apart_more (d ∷ cs) c q a.1 h)

-- ---- one place more
pub goes_on : (ps : List (Option Place)) (cs : List Cell) (c : Cell) (q : Option Place) → AreCells ps (cs ++ c ∷ []) → Extends c.width c.first q → AreCells (ps ++ q ∷ []) (cs ++ wider c ∷ [])
goes_on ps cs c q h on = record {
  laid = laid_more cs (wider c) ∙ ap (λ x. flat_map places_of cs ++ x) (run_more c.width c.first ∙ ap (λ x. places_of c ++ x ∷ []) (next_place c.width c.first q on))
      ∙ sym (append_assoc (flat_map places_of cs) (places_of c) (q ∷ [])) ∙ ap (λ x. x ++ q ∷ []) (sym (laid_more cs c) ∙ h.laid);
  runs = All-push IsRun cs (wider c) (last_run cs c h.runs) (wider_run c q on);
  apart = apart_wider cs c h.apart;
}

pub begins : (ps : List (Option Place)) (cs : List Cell) (c : Cell) (q : Option Place) → AreCells ps (cs ++ c ∷ []) → (Extends c.width c.first q → ⊥) → AreCells (ps ++ q ∷ []) ((cs ++ c ∷ []) ++ one_place q ∷ [])
begins ps cs c q h off = record {
  laid = laid_more (cs ++ c ∷ []) (one_place q) ∙ ap (λ x. flat_map places_of (cs ++ c ∷ []) ++ x) (one_laid q) ∙ ap (λ x. x ++ q ∷ []) h.laid;
  runs = All-push IsRun (cs ++ c ∷ []) (one_place q) h.runs (one_run q);
  apart = apart_more cs c q h.apart off;
}

-- the places of a row up to the next one
pub next_place_taken : (first : Option Place) (rest : List (Option Place)) (i : ℕ) (cs : List Cell) → i < length rest → AreCells ((first ∷ take i rest) ++ get_or rest i None ∷ []) cs → AreCells (first ∷ take (i + 1) rest) cs
next_place_taken first rest i cs h cells = subst (λ ps. AreCells (first ∷ ps) cs) (sym (take_more rest i None h)) cells

-- ---- rows
-- a row more, before what the rest has
pub row_more : (places rest front back : List (Option Place)) (n : ℕ) (rows : List (Vec Cell)) (row : Vec Cell) → 0 < length rest → n ≡ min 32 (length rest) → front ≡ take n rest → back ≡ drop n rest → AreCells front row.items
    → ((more : List (Vec Cell)) → AreRows rest more → AreRows places (rows ++ more)) → (more : List (Vec Cell)) → AreRows back more → AreRows places ((rows ++ row ∷ []) ++ more)
row_more places rest front back n rows row some e f b cells before more h =
    let here : front ≡ take 32 rest = f ∙ ap (λ k. take k rest) e ∙ take_min 32 rest in
    let there : back ≡ drop 32 rest = b ∙ ap (λ k. drop k rest) e ∙ drop_min 32 rest in
    subst (AreRows places) (sym (append_assoc rows (row ∷ []) more)) (before (row ∷ more) (some, subst (λ ps. AreCells ps row.items) here cells, subst (λ ps. AreRows ps more) there h))

-- rows that are laid one after the other are the places again
pub rows_laid : (places : List (Option Place)) (rows : List (Vec Cell)) → AreRows places rows → places_in rows ≡ places
rows_laid places [] h = sym h
rows_laid places (row ∷ rows) h =
    ap (λ x. x ++ places_in rows) h.1.laid ∙ ap (λ x. take 32 places ++ x) (rows_laid (drop 32 places) rows h.2) ∙ take-append-drop 32 places
