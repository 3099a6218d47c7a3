-- Words that the bits of values make.
use Rattle.std.specs.Prelude.{◌≡◌, ◌<◌, ◌≤◌, ◌^◌, ◌++◌, true, false, Bool, List, Option, Some, None, Ok, ⊤}
use Rattle.deku_bits.specs.declared.ctx.Order.{Order}
use Rattle.deku_bits.specs.declared.ctx.Order.TheVariants.{Msb0, Lsb0}
use Rattle.deku_bits.specs.declared.writer.Writer.{Writer}
use Rattle.deku_bits.specs.Devices.{KnownSink}
use Rattle.deku_bits.specs.Bits.{bits_of, facing, shown}
use Rattle.deku_bits.specs.Writers.{Meets}
use Rattle.deku_bits.specs.Standings.{Standing, Going, Stopped, Output}
use Rattle.deku_bits.specs.Outcomes.{Meaning}
use Rattle.deku_bits.specs.WriterCalls.{Writes, WritesBits, pending_state}
use Rattle.deku_writing.specs.declared.words.Word.{Word}

-- If the writer goes on, nothing is pending, or bits of this order are.
abbrev pub Follows : Order → Standing Output → Type 0
Follows o (Going out c) = Meets o out.pending
Follows o (Stopped out e c) = ⊤

-- A write of these bits, after none or after bits of the same order, is a write of m.
abbrev pub IsWriteOf : Meaning Output (Unit {0}) → Order → List Bool → Type 0
IsWriteOf m o bits = (s u : Standing Output) → Follows o s → WritesBits o (shown o bits) false s (Ok tt) u → m false s (Ok tt) u

-- The bits of a word: the first is the highest of its number in `Msb0`, and the lowest in `Lsb0`.
abbrev pub word_list : Order → Word → List Bool
word_list o w = facing o (bits_of w.bits w.number)

-- A word of 1 to 64 bits.
pub record IsWord (w : Word) : Type 0 where
  pub some : 0 < w.bits
  pub few : w.bits ≤ 64
  pub below : w.number < 2 ^ w.bits

-- A word of what m writes: if it fits, a write of its bits is a write of m.
pub record IsWordOf (m : Meaning Output (Unit {0})) (o : Order) (w : Word) : Type 0 where
  pub word : IsWord w
  pub writes : w.fits ≡ true → IsWriteOf m o (word_list o w)

-- A word of the bits of a, and then those of b. If it fits, both do.
pub record IsJoined (o : Order) (a b w : Word) : Type 0 where
  pub word : IsWord w
  pub list : word_list o w ≡ word_list o a ++ word_list o b
  pub fits : w.fits ≡ true → (a.fits ≡ true) × (b.fits ≡ true)

-- The word fits, and its bits were written after none or after bits of the same order.
pub record WroteWord {W : Type 0} (known : W → KnownSink) (o : Order) (w : Word) (old new : Writer W) : Type 0 where
  pub fits : w.fits ≡ true
  pub follows : Meets o (pending_state old)
  pub writes : Writes known (WritesBits o (shown o (word_list o w))) old (Ok tt) new

-- The first word was written in `Msb0`, or if there is none the second in `Lsb0`.
abbrev pub WroteOne : {W : Type 0} → (W → KnownSink) → Option Word → Option Word → Writer W → Writer W → Type 0
WroteOne known (Some w) low old new = WroteWord known Msb0 w old new
WroteOne known None (Some w) old new = WroteWord known Lsb0 w old new
WroteOne known None None old new = ⊥
