-- What the calls of a reader do.
use Rattle.std.specs.Prelude.{◌≡◌, ◌⊎◌, ⊤, ℕ, ◌+◌, ◌*◌, ◌-◌, ◌%◌, ◌^◌, ◌<◌, ◌≤◌, Bool, true, false, List, [], length, drop, Option, None, Some, Result, Ok, Err}
use Rattle.std.specs.Global.{Vec}
use Rattle.std.specs.declared.io.ErrorKind.TheVariants.{OutOfMemory}
use Rattle.deku_stream.specs.declared.ctx.Order.{Order}
use Rattle.deku_stream.specs.declared.error.DekuError.{DekuError}
use Rattle.deku_stream.specs.declared.error.DekuError.TheVariants.{Incomplete, Io}
use Rattle.deku_reader.specs.declared.reader.Reader.{Reader}
use Rattle.deku_reader.specs.declared.reader.Leftover.{Leftover}
use Rattle.deku_reader.specs.declared.reader.Leftover.TheVariants.{Byte, Bits}
use Rattle.deku_stream.specs.Bits.{byte_bits, shown, bits_in, bytes_of, groups, word_of}
use Rattle.deku_stream.specs.Streams.{Stream, bit_count, Has, Lacks, taken, left, last_part, passed, skipped}
use Rattle.deku_device.specs.Devices.{KnownSource, Loses}
use Rattle.deku_stream.specs.Standings.{Standing, Going, Stopped, Untouched, count_of, reader_state}
use Rattle.deku_stream.specs.Kept.{Admits}
use Rattle.deku_stream.specs.Outcomes.{Meaning, Outcome, Unknown, UnlessStopped, CountsBits, Reserving, Mapped}

-- A call on a source and on the state that a reader keeps besides it.
abbrev pub ReadsAt : {V : Type 0} → Meaning (Option Stream) V → KnownSource → Standing (List Bool) → Result V DekuError → KnownSource → Standing (List Bool) → Type 0
ReadsAt m known s r told_after u = Outcome m (reader_state known.remaining s) known.health r (reader_state told_after.remaining u) told_after.health

-- A call on a reader.
abbrev pub Reads : {R V : Type 0} → (R → KnownSource) → Meaning (Option Stream) V → Reader R → Result V DekuError → Reader R → Type 0
Reads known m old r new = ReadsAt m (known old.source) old.state r (known new.source) new.state

-- The end of the input, which is kept, after n bits were asked for.
abbrev pub Ends : {V : Type 0} → ℕ → ℕ → Result V DekuError → Standing (Option Stream) → Type 0
Ends n c r u = (r ≡ Err (Incomplete (record { bits = n }))) × (left : Option Stream) × (u ≡ Stopped left (Incomplete (record { bits = n })) c)

-- n bits are taken from a stream. A known stream gives exactly its next bits, or the end of the
-- input if it has too few.
abbrev pub Transfers : Order → ℕ → Option Stream → ℕ → Result (List Bool) DekuError → Standing (Option Stream) → Type 0
Transfers o n (Some S) c r u = (Has n S × (r ≡ Ok (taken o n S)) × (u ≡ Going (Some (left o n S)) (c + n))) ⊎ (Lacks n S × Ends n c r u)
Transfers o n None c r u = ((bits : List Bool) × (after : Option Stream) × (length bits ≡ n) × (r ≡ Ok bits) × (u ≡ Going after (c + n))) ⊎ Ends n c r u

-- n bits are taken in an order.
abbrev pub TakesBits : Order → ℕ → Meaning (Option Stream) (List Bool)
TakesBits o n = UnlessStopped Unknown (CountsBits n (Transfers o n))

-- n bits are taken in an order and shown.
abbrev pub ReadsBits : Order → ℕ → Meaning (Option Stream) (List Bool)
ReadsBits o n = Mapped (shown o) (TakesBits o n)

-- n bits are taken in an order and shown, in memory that is taken first.
abbrev pub ReadsVec : Order → ℕ → Meaning (Option Stream) (List Bool)
ReadsVec o n = Mapped (shown o) (UnlessStopped Unknown (CountsBits n (Reserving (Transfers o n))))

-- n bytes are read: eight times as many bits are taken in an order and shown, as bytes.
abbrev pub ReadsBytes : Order → ℕ → Meaning (Option Stream) (List ℕ)
ReadsBytes o n = Mapped bytes_of (ReadsBits o (8 * n))

-- n bytes are read, in memory that is taken first.
abbrev pub ReadsByteVec : Order → ℕ → Meaning (Option Stream) (List ℕ)
ReadsByteVec o n = Mapped bytes_of (ReadsVec o (8 * n))

-- n bits are taken in an order, as their word.
abbrev pub ReadsWord : Order → ℕ → Meaning (Option Stream) ℕ
ReadsWord o n = Mapped (word_of o) (TakesBits o n)

-- Whether the end of the input is reached. In a known stream this means that no bit is left; the
-- stream stays the same.
abbrev pub Peeks : Option Stream → ℕ → Result Bool DekuError → Standing (Option Stream) → Type 0
Peeks (Some S) c r u = (((bit_count S ≡ 0) × (r ≡ Ok true)) ⊎ ((0 < bit_count S) × (r ≡ Ok false))) × (u ≡ Going (Some S) c)
Peeks None c r u = (at_end : Bool) × (after : Option Stream) × (r ≡ Ok at_end) × (u ≡ Going after c)

-- A check whether the end of the input is reached.
abbrev pub Ending : Meaning (Option Stream) Bool
Ending = UnlessStopped Unknown Peeks

-- n bits are skipped. A known stream leaves what a skip leaves, or ends if its last part has too
-- few bits.
abbrev pub Skipping : Order → ℕ → Option Stream → ℕ → Result (Unit {0}) DekuError → Standing (Option Stream) → Type 0
Skipping o n (Some S) c r u = (Has (last_part n S) (passed o n S) × (r ≡ Ok tt) × (u ≡ Going (Some (skipped o n S)) (c + n)))
    ⊎ (Lacks (last_part n S) (passed o n S) × Ends (last_part n S) c r u)
Skipping o n None c r u = ((after : Option Stream) × (r ≡ Ok tt) × (u ≡ Going after (c + n)))
    ⊎ ((m : ℕ) × (0 < m) × (m < 8) × (m ≤ n) × Ends m c r u)

-- n bits are skipped in an order.
abbrev pub Skips : Order → ℕ → Meaning (Option Stream) (Unit {0})
Skips o n = UnlessStopped Unknown (CountsBits n (Skipping o n))

-- What was put into a buffer, if the call succeeds.
abbrev pub filling : {V W : Type 0} → Result V DekuError → W → Result W DekuError
filling (Ok v) items = Ok items
filling (Err e) items = Err e

-- The unread bits of a byte. There are none if the reader has stopped.
abbrev pub window_of : Standing (List Bool) → List Bool
window_of (Going window c) = window
window_of (Stopped window e c) = []

-- No byte is fetched too early: fewer than eight bits of the last one are unread, or what the
-- reader keeps has not changed.
abbrev pub NoneEarly : Standing (List Bool) → Standing (List Bool) → Type 0
NoneEarly s u = (length (window_of u) < 8) ⊎ (u ≡ s)

-- n bits need no transfer: as many are unread, or the count has no room for them.
abbrev pub NeedsNone : ℕ → Standing (List Bool) → Type 0
NeedsNone n s = (n ≤ length (window_of s)) ⊎ (2 ^ 64 ≤ count_of s + n)

-- If a skip of n bits meets the end of the input, its error names the bits after the unread ones
-- and the whole bytes.
abbrev pub NamesRest : ℕ → Standing (List Bool) → Result (Unit {0}) DekuError → Type 0
NamesRest n (Going w c) r = (m : ℕ) → r ≡ Err (Incomplete (record { bits = m })) → m ≡ (n - length w) % 8
NamesRest n (Stopped w e c) r = ⊤

-- Exactly as many bytes were fetched as n bits need after the unread ones.
abbrev pub FetchesFor : ℕ → Standing (List Bool) → KnownSource → KnownSource → Type 0
FetchesFor n s old new = Loses (groups (n - length (window_of s))) old.remaining new.remaining

-- Exactly as many bytes were fetched as the unread bits that were added need.
abbrev pub FetchesAhead : Standing (List Bool) → Standing (List Bool) → KnownSource → KnownSource → Type 0
FetchesAhead s u old new = Loses (groups (length (window_of u) - length (window_of s))) old.remaining new.remaining

-- The known bytes of the source are those after the first k. The bits of the first k are those that
-- were counted and those that are unread.
abbrev pub IsBehind : List ℕ → ℕ → Option (List ℕ) → Standing (List Bool) → Type 0
IsBehind bytes k remaining s = (remaining ≡ Some (drop k bytes)) × (8 * k ≡ count_of s + length (window_of s))

-- k of the known bytes of a source were fetched. A skip past their end would count more.
abbrev pub HasFetched : List ℕ → ℕ → Option (List ℕ) → Standing (List Bool) → Type 0
HasFetched bytes k remaining s = (k ≤ length bytes) × IsBehind bytes k remaining s

-- ---- What a caller sees of a reader, without its fields.
-- The source.
abbrev pub source_of : {R : Type 0} → Reader R → R
source_of r = r.source

-- The unread bits. None after an error that stopped it.
abbrev pub unread_of : {R : Type 0} → Reader R → List Bool
unread_of r = window_of r.state

-- How many bits it has read.
abbrev pub read_count : {R : Type 0} → Reader R → ℕ
read_count r = count_of r.state

-- It has read this many bits, and none is unread.
abbrev pub ReadsOn : {R : Type 0} → Reader R → ℕ → Type 0
ReadsOn r count = r.state ≡ Going [] count

-- It has stopped with this error, after this many bits.
abbrev pub StopsReading : {R : Type 0} → Reader R → DekuError → ℕ → Type 0
StopsReading r fault count = r.state ≡ Stopped [] fault count

-- What a read of n bits returns before it moves anything.
abbrev pub AdmitsRead : {R : Type 0} → ℕ → Reader R → Result (Unit {0}) DekuError → Type 0
AdmitsRead n r = Admits n r.state

-- A read of n bits fetched as many bytes as it needs after the unread bits, and no more.
abbrev pub Fetched : {R : Type 0} → (R → KnownSource) → ℕ → Reader R → Reader R → Type 0
Fetched known n old new = FetchesFor n old.state (known old.source) (known new.source)

-- A check for the end fetched the bytes of the bits that are unread since, and no more.
abbrev pub FetchedAhead : {R : Type 0} → (R → KnownSource) → Reader R → Reader R → Type 0
FetchedAhead known old new = FetchesAhead old.state new.state (known old.source) (known new.source)

-- No byte was fetched too early.
abbrev pub FetchedInTime : {R : Type 0} → Reader R → Reader R → Type 0
FetchedInTime old new = NoneEarly old.state new.state

-- If n bits need no transfer, the source is unchanged.
abbrev pub KeepsSourceFor : {R : Type 0} → ℕ → Reader R → Reader R → Type 0
KeepsSourceFor n old new = NeedsNone n old.state → new.source ≡ old.source

-- If the reader had stopped, the source is unchanged.
abbrev pub KeepsSourceStopped : {R : Type 0} → Reader R → Reader R → Type 0
KeepsSourceStopped old new = Untouched old.state old.source new.source

-- If a skip of n bits meets the end of input, its error names the bits after the unread ones and
-- the whole bytes.
abbrev pub NamesRestOf : {R : Type 0} → ℕ → Reader R → Result (Unit {0}) DekuError → Type 0
NamesRestOf n r = NamesRest n r.state

-- the items of the vector that was read, where the call succeeds
abbrev pub items_of : {V : Type 0} → Result (Vec V) DekuError → Result (List V) DekuError
items_of (Ok v) = Ok v.items
items_of (Err e) = Err e

-- The leftover that represents a window: none, one whole byte, or fewer than eight bits.
abbrev pub IsLeftover : List Bool → Option Leftover → Type 0
IsLeftover w None = w ≡ []
IsLeftover w (Some (Byte b)) = w ≡ byte_bits b
IsLeftover w (Some (Bits v)) = (v ≡ w) × (0 < length w) × (length w < 8)

-- A skip of no more bits than a known stream has leaves the same stream and count as a read of as
-- many bits that succeeds.
abbrev pub SkipReadLaw : Type 0
SkipReadLaw = (o : Order) (n c : ℕ) (S : Stream) → length S.window ≤ 8 → Has n S
    → (bits : List Bool) (u v : Standing (Option Stream)) (r : Result (Unit {0}) DekuError)
    → ReadsVec o n false (Going (Some S) c) (Ok bits) u → Skips o n false (Going (Some S) c) r v → (r ≡ Ok tt) × (v ≡ u)

-- A read of bytes returns what a read of eight times as many bits returns, as bytes, and leaves the
-- same; but it does not run out of memory.
abbrev pub BytesLaw : Type 0
BytesLaw = (o : Order) (n : ℕ) (breaks : Bool) (s u : Standing (Option Stream))
    → ((bits : List Bool) → ReadsVec o (8 * n) breaks s (Ok bits) u → ReadsBytes o n breaks s (Ok (bytes_of bits)) u)
    × ((bytes : List ℕ) → ReadsBytes o n breaks s (Ok bytes) u → (length bytes ≡ n) × ReadsVec o (8 * n) breaks s (Ok (bits_in bytes)) u)
    × ((e : DekuError) → ReadsBytes o n breaks s (Err e) u → ReadsVec o (8 * n) breaks s (Err e) u)
    × ((e : DekuError) → ReadsVec o (8 * n) breaks s (Err e) u → ReadsBytes o n breaks s (Err e) u ⊎ ((e ≡ Io OutOfMemory) × (u ≡ s)))

-- On a new reader, reads and checks that succeed fetch the bytes of the bits that they count and of
-- those that are then unread. If fewer than eight bits are unread, as after a read, these are the
-- bytes that the counted bits fill. If eight are unread, as after a check, it is one byte more.
abbrev pub FetchLaw : Type 0
FetchLaw = (bytes : List ℕ)
    → HasFetched bytes 0 (Some bytes) (Going [] 0)
    × ((o : Order) (k n : ℕ) (bits : List Bool) (known after : KnownSource) (s u : Standing (List Bool)) → HasFetched bytes k known.remaining s
    → ReadsAt (TakesBits o n) known s (Ok bits) after u → FetchesFor n s known after → HasFetched bytes (k + groups (n - length (window_of s))) after.remaining u)
    × ((k : ℕ) (at_end : Bool) (known after : KnownSource) (s u : Standing (List Bool)) → HasFetched bytes k known.remaining s
    → ReadsAt Ending known s (Ok at_end) after u → FetchesAhead s u known after → HasFetched bytes (k + groups (length (window_of u) - length (window_of s))) after.remaining u)
    × ((k : ℕ) (remaining : Option (List ℕ)) (s : Standing (List Bool)) → HasFetched bytes k remaining s
    → (length (window_of s) < 8 → k ≡ groups (count_of s)) × (length (window_of s) ≤ 8 → k ≤ groups (count_of s) + 1))
