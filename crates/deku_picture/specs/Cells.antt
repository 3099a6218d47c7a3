-- The cells of a picture: runs of neighbouring places that belong together, and the rows that they
-- are in.
use Rattle.std.specs.Prelude.{◌≡◌, ℕ, zero, suc, ◌+◌, ◌-◌, ◌<◌, ◌≤◌, List, [], ◌∷◌, ◌++◌, length, take, drop, flat_map, All, Option, Some, None, IfSome, ⊤}
use Rattle.std.specs.Global.{Vec}
use Rattle.deku_fields.specs.declared.picture.Place.{Place}
use Rattle.deku_picture.specs.declared.cell.Cell.{Cell}

-- ---- the places of a cell
-- The place that is n after the first of a run: padding after padding, and after a bit the bit that
-- is n lower.
abbrev pub behind : ℕ → Option Place → Option Place
behind n None = None
behind n (Some p) = Some (record { field = p.field; bit = p.bit - n })

-- The first n places of a run.
abbrev pub run : ℕ → Option Place → List (Option Place)
run zero first = []
run (suc n) first = run n first ++ behind n first ∷ []

-- The places of a cell, from left to right.
abbrev pub places_of : Cell → List (Option Place)
places_of c = run c.width c.first

-- ---- cells of a row
-- A cell has a place, and its bits do not go below the lowest bit.
pub record IsRun (c : Cell) : Type 0 where
  pub some : 0 < c.width
  pub low : IfSome c.first (λ p. c.width ≤ p.bit + 1)

-- A run of n places continues with a place: both are padding, or it is the same field's next lower
-- bit.
abbrev pub Extends : ℕ → Option Place → Option Place → Type 0
Extends n None None = ⊤
Extends n (Some p) (Some q) = (p.field ≡ q.field) × (p.bit ≡ q.bit + n)
Extends n _ _ = ⊥

-- No cell continues the one before it.
abbrev pub AreApart : List Cell → Type 0
AreApart [] = ⊤
AreApart (c ∷ []) = ⊤
AreApart (c ∷ d ∷ cells) = (Extends c.width c.first d.first → ⊥) × AreApart (d ∷ cells)

-- The cells of places: put one after the other they are these places, each of them is a run, and
-- each is as long as possible.
pub record AreCells (places : List (Option Place)) (cells : List Cell) : Type 0 where
  pub laid : flat_map places_of cells ≡ places
  pub runs : All IsRun cells
  pub apart : AreApart cells

-- ---- rows
-- Places in rows of 32, the last of which may have fewer, but has at least one: each row has the
-- cells of its places.
abbrev pub AreRows : List (Option Place) → List (Vec Cell) → Type 0
AreRows places [] = places ≡ []
AreRows places (row ∷ rows) = (0 < length places) × AreCells (take 32 places) row.items × AreRows (drop 32 places) rows

-- The places of all rows, one after the other.
abbrev pub places_in : List (Vec Cell) → List (Option Place)
places_in rows = flat_map (λ row. flat_map places_of row.items) rows
