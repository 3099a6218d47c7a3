-- Bits that are taken from a window and the next bytes, one after the other.
use Rattle.std.specs.Prelude.{◌≡◌, ⊤, ℕ, ◌+◌, ◌*◌, ◌<◌, Bool, List, length, map, ◌++◌, Option, None, Some}
use Rattle.deku_stream.specs.declared.ctx.Order.{Order}
use Rattle.deku_stream.specs.Bits.{chunks, facing, group_number, word_of}
use Rattle.deku_stream.specs.Streams.{flow, seen}

-- A window and the next bytes, if they are known, give these bits, and then are another window and
-- the bytes after those.
abbrev pub Moves : Order → List Bool → Option (List ℕ) → List Bool → List Bool → Option (List ℕ) → Type 0
Moves o window None bits rest after = ⊤
Moves o window (Some bytes) bits rest None = ⊥
Moves o window (Some bytes) bits rest (Some after) =
    (seen o (record { window = window; bytes = bytes }) ≡ bits ++ seen o (record { window = rest; bytes = after }))
    × ((run : List ℕ) × (bytes ≡ run ++ after))

-- A window and the next bytes, if they are known, have fewer than n bits.
abbrev pub FewerBits : ℕ → List Bool → Option (List ℕ) → Type 0
FewerBits n window None = ⊤
FewerBits n window (Some bytes) = length window + 8 * length bytes < n

-- A window gives its first n bits in an order, which have this number, and keeps those after them.
pub record GivesGroup (o : Order) (n : ℕ) (window : List Bool) (number : ℕ) (rest : List Bool) : Type 0 where
  pub group : List Bool
  pub long : length group ≡ n
  pub cut : facing o window ≡ group ++ facing o rest
  pub worth : number ≡ group_number o group

-- A window, with bytes after it, gives its first n bits in an order, whose groups have these
-- numbers. Those after them are another window.
pub record TakesGroups (o : Order) (window : List Bool) (bytes : List ℕ) (n : ℕ) (numbers : List ℕ) (rest : List Bool) : Type 0 where
  pub bits : List Bool
  pub long : length bits ≡ n
  pub cut : facing o window ++ flow o bytes ≡ bits ++ facing o rest
  pub worth : map (group_number o) (chunks bits) ≡ numbers

-- A window, with bytes after it, gives its first n bits in an order, which have this word. Those
-- after them are another window.
pub record TakesWord (o : Order) (window : List Bool) (bytes : List ℕ) (n number : ℕ) (rest : List Bool) : Type 0 where
  pub bits : List Bool
  pub long : length bits ≡ n
  pub cut : facing o window ++ flow o bytes ≡ bits ++ facing o rest
  pub worth : number ≡ word_of o bits

-- n bits that have this word are taken from a window and the next bytes.
pub record MovesWord (o : Order) (window : List Bool) (bytes : Option (List ℕ)) (n number : ℕ) (rest : List Bool) (after : Option (List ℕ)) : Type 0 where
  pub bits : List Bool
  pub long : length bits ≡ n
  pub moved : Moves o window bytes bits rest after
  pub worth : number ≡ word_of o bits
