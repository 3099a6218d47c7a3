-- Bits that are given out through a byte that fills.
use Rattle.std.specs.Prelude.{◌≡◌, ℕ, zero, suc, ◌*◌, ◌/◌, ◌%◌, ◌^◌, ◌<◌, List, Bool, Option, None, Some, [], ◌∷◌, ◌++◌, length, reverse, flat_map, ⊤}
use Rattle.std.specs.declared.io.ErrorKind.{ErrorKind}
use Rattle.deku_stream.specs.declared.ctx.Order.{Order}
use Rattle.deku_writer.specs.declared.writer.way.Way.{Way}
use Rattle.deku_writer.specs.declared.writer.way.Way.TheVariants.{Forward, Backward, TurnedBytes, BytesBackward}
use Rattle.deku_stream.specs.Bits.{bits_of, chunks, facing}
use Rattle.deku_stream.specs.Streams.{flow}
use Rattle.deku_stream.specs.Writers.{held, remainder, cut, append}
use Rattle.deku_device.specs.Devices.{KnownSink, Gave, Declined}

-- The bits of a list, on a way through it.
abbrev pub along : Way → List Bool → List Bool
along Forward s = s
along Backward s = reverse s
along TurnedBytes s = flat_map reverse (chunks s)
along BytesBackward s = reverse (flat_map reverse (chunks s))

-- A way by bytes needs whole bytes.
abbrev pub IsFor : Way → ℕ → Type 0
IsFor Forward n = ⊤
IsFor Backward n = ⊤
IsFor TurnedBytes n = n % 8 ≡ 0
IsFor BytesBackward n = n % 8 ≡ 0

-- The bytes that fill if the held bits, high bit first, and then these bits, both in this order,
-- are cut into groups of eight.
abbrev pub full_bytes : Order → List Bool → List Bool → List ℕ
full_bytes o before bits = (cut o (facing o before ++ bits)).bytes

-- The held bits, high bit first, and then these bits, both in this order, are cut into groups of
-- eight: these bytes go out, and the rest is held.
pub record Fills (o : Order) (before after bits : List Bool) (out : List ℕ) : Type 0 where
  pub bytes : out ≡ full_bytes o before bits
  pub rest : facing o after ≡ remainder (facing o before ++ bits)

-- The byte that goes out, if there is one.
abbrev pub given : Option ℕ → List ℕ
given None = []
given (Some byte) = byte ∷ []

-- The held bits, high bit first, and then these bits, both in this order, were cut into groups of
-- eight: the sink took the bytes, and the rest is held.
pub record Pushed (old new : KnownSink) (o : Order) (before after bits : List Bool) : Type 0 where
  pub gave : Gave old new (full_bytes o before bits)
  pub rest : facing o after ≡ remainder (facing o before ++ bits)

-- The sink took only a beginning of the bytes, of which there is at least one.
pub record GaveUp (old new : KnownSink) (bytes : List ℕ) (kind : ErrorKind) : Type 0 where
  pub some : 0 < length bytes
  pub declined : Declined old new bytes kind

-- The bytes that fill if bits are added to the held bits of an order.
abbrev pub onto_bytes : Order → Order → List Bool → List Bool → List ℕ
onto_bytes from to before bits = (append to bits (held from before)).bytes

-- Bits were added to the held bits of an order: the sink took the bytes, and the rest is held in
-- the order of the new bits.
pub record PushedOnto (old new : KnownSink) (from to : Order) (before after bits : List Bool) : Type 0 where
  pub gave : Gave old new (onto_bytes from to before bits)
  pub rest : held to after ≡ (append to bits (held from before)).pending
  pub short : length after < 8

-- Bits were added to the held bits of an order: these bytes go out, and the rest is held in the
-- order of the new bits.
pub record FillsOnto (from to : Order) (before after bits : List Bool) (out : List ℕ) : Type 0 where
  pub bytes : out ≡ onto_bytes from to before bits
  pub rest : held to after ≡ (append to bits (held from before)).pending
  pub short : length after < 8

-- ---- words
-- The lowest k bytes of a number, the low byte first.
abbrev pub low_bytes : ℕ → ℕ → List ℕ
low_bytes zero w = []
low_bytes (suc k) w = w % 256 ∷ low_bytes k (w / 256)

-- The list of n bits that has this word, which is below 2 ^ n: its groups of eight, from the low
-- byte on, and the bits above them.
unfoldable pub word_bits : Order → ℕ → ℕ → List Bool
word_bits o n w = flow o (low_bytes (n / 8) w) ++ facing o (bits_of (n % 8) (w / 2 ^ (8 * (n / 8))))
