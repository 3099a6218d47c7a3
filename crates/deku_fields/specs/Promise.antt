-- What the calls on lists promise: from bytes that begin with a layout its values are read, and
-- items are written as their layout.
use Rattle.std.specs.Prelude.{◌≡◌, ◌⊎◌, ℕ, false, ◌+◌, ◌*◌, ◌-◌, ◌<◌, ◌≤◌, ◌^◌, length, map, take, All, MatchResult, OnOk, IfOk, List, [], ◌++◌, Option, None, Some, Result, Ok, Err, ⊤}
use Rattle.std.specs.Global.{Vec}
use Rattle.std.specs.declared.io.ErrorKind.TheVariants.{OutOfMemory}
use Rattle.deku_bits.specs.declared.error.DekuError.{DekuError}
use Rattle.deku_bits.specs.declared.error.DekuError.TheVariants.{Io}
use Rattle.deku_bits.specs.declared.ctx.Order.TheVariants.{Msb0}
use Rattle.deku_bits.specs.declared.reader.Reader.{Reader}
use Rattle.deku_bits.specs.declared.writer.Writer.{Writer}
use Rattle.deku_bits.specs.Streams.{Stream, fresh}
use Rattle.deku_bits.specs.Pieces.{total, cleared, last_order}
use Rattle.deku_bits.specs.Writers.{Nothing, Written, padded}
use Rattle.deku_bits.specs.Devices.{Health, KnownSource, KnownSink}
use Rattle.deku_bits.specs.Standings.{Standing, Going, Output, reader_state, writer_state}
use Rattle.deku_bits.specs.WriterCalls.{Took, Finalizes}
use Rattle.deku.specs.Composing.{Both}
use Rattle.deku_fields.specs.declared.list.Number.{Number}
use Rattle.deku_fields.specs.declared.list.Field.{Field}
use Rattle.deku_fields.specs.declared.list.Item.{Item}
use Rattle.deku_fields.specs.Items.{field_shape, IsAllowedField, IsFitting, AlignedFields, LaysOut, ReadsValues, fields_of, values_of}
use Rattle.deku_fields.specs.ListCalls.{ReadsFields, WritesItems}

-- ---- devices that do not fail
-- The count of failures of a device is known, and none was added.
pub record Unfailing (before after : Health) : Type 0 where
  pub count : ℕ
  pub known : before.failures ≡ Some count
  pub still : after.failures ≡ Some count

-- A call on a reader does what m says, if the failures of its source are known and none occurs.
abbrev pub ReadsWhereSound : {R V : Type 0} → (R → KnownSource) → (Standing (Option Stream) → Result V DekuError → Standing (Option Stream) → Type 0) → Reader R → Result V DekuError → Reader R → Type 0
ReadsWhereSound told m old r new = Unfailing (told old.source).health (told new.source).health
    → m (reader_state (told old.source).remaining old.state) r (reader_state (told new.source).remaining new.state)

-- A call on a reader does what m says of what is known of its source.
abbrev pub ReadsWhereTold : {R V : Type 0} → (R → KnownSource) → (Standing (Option Stream) → Result V DekuError → Standing (Option Stream) → Type 0) → Reader R → Result V DekuError → Reader R → Type 0
ReadsWhereTold told m old r new = m (reader_state (told old.source).remaining old.state) r (reader_state (told new.source).remaining new.state)

-- A call on a writer does what m says, if the failures of its sink are known and none occurs.
abbrev pub WritesWhereSound : {W : Type 0} → (W → KnownSink) → (Standing Output → Result (Unit {0}) DekuError → Standing Output → Type 0) → Writer W → Result (Unit {0}) DekuError → Writer W → Type 0
WritesWhereSound told m old r new = Unfailing (told old.sink).health (told new.sink).health
    → m (writer_state (told old.sink) old.state) r (writer_state (told new.sink) new.state)

-- ---- reading
-- Bytes begin with what aligned fitting items of these fields lay out, and others follow.
pub record Begins (fs : List Field) (items : List Item) (bytes after : List ℕ) : Type 0 where
  pub of_fields : fields_of items ≡ fs
  pub fitting : All IsFitting items
  pub aligned : AlignedFields fs
  pub written : List ℕ
  pub laid : LaysOut items written
  pub begins : bytes ≡ written ++ after

-- Fields were read from bytes: these values. Their bits are counted from c on. The unread bits of
-- the last byte and the bytes after it are still to be read.
pub record HasRead (fs : List Field) (bytes : List ℕ) (values : List Number) (c : ℕ) (after : List ℕ) (u : Standing (Option Stream)) : Type 0 where
  pub rest : Stream
  pub read : ReadsValues fs (fresh bytes) values rest
  pub behind : rest.bytes ≡ after
  pub unread : total (map field_shape fs) + length rest.window + 8 * length after ≡ 8 * length bytes
  pub stands : u ≡ Going (Some rest) (c + total (map field_shape fs))

-- From bytes that begin with what aligned fitting items lay out, whatever follows, the fields read
-- exactly the items' values.
abbrev pub ReadsBack : List Field → Standing (Option Stream) → Result (List Number) DekuError → Standing (Option Stream) → Type 0
ReadsBack fs s r u = (items : List Item) (bytes after : List ℕ) (c : ℕ) → Begins fs items bytes after → s ≡ Going (Some (fresh bytes)) c
    → c + total (map field_shape fs) < 2 ^ 64 → (r ≡ Ok (values_of items)) × HasRead fs bytes (values_of items) c after u

-- Fields are read, in one call or in several, from known bytes, and no device fails. From bytes
-- that begin with what aligned fitting items lay out, whatever follows, they read exactly the
-- items' values.
abbrev pub ReadBackLaw : Type 0
ReadBackLaw = (fs : List Field) (r : Result (List Number) DekuError) (s u : Standing (Option Stream)) → ReadsFields fs false s r u → ReadsBack fs s r u

-- What `ReadsBack` says, in memory that is taken first. If there is none, it fails, and nothing
-- changes.
abbrev pub ReadsBackVec : List Field → Standing (Option Stream) → Result (List Number) DekuError → Standing (Option Stream) → Type 0
ReadsBackVec fs s r u = ((r ≡ Err (Io OutOfMemory)) × (u ≡ s)) ⊎ ReadsBack fs s r u

-- No bit of a byte was unread, and the bytes of the source were known and began with what aligned
-- fitting items lay out. Then after a read of the fields exactly the bytes after these are left,
-- and known.
abbrev pub LeavesBehind : {R : Type 0} → (R → KnownSource) → List Field → Reader R → Result (List Number) DekuError → Reader R → Type 0
LeavesBehind told fs old r new = (items : List Item) (bytes after : List ℕ) (c : ℕ) → Unfailing (told old.source).health (told new.source).health
    → Begins fs items bytes after → old.state ≡ Going [] c → (told old.source).remaining ≡ Some bytes → c + total (map field_shape fs) < 2 ^ 64
    → OnOk r ((told new.source).remaining ≡ Some after)

-- From bytes that begin with what aligned fitting items lay out, whatever follows, the fields read
-- exactly the items' values, and their width.
abbrev pub ReadsBackFrom : List Field → List ℕ → Result (ℕ × Vec Number) DekuError → Type 0
ReadsBackFrom fs bytes r = (items : List Item) (after : List ℕ) → Begins fs items bytes after → total (map field_shape fs) < 2 ^ 64
    → MatchResult r (λ v. (v.0 ≡ total (map field_shape fs)) × (v.1.items ≡ values_of items)) (λ e. e ≡ Io OutOfMemory)

-- What fields whose layouts are not rejected read from a stream: these values, and this stream is
-- left.
pub record HasFound (fs : List Field) (S : Stream) (c : ℕ) (values : List Number) (u : Standing (Option Stream)) : Type 0 where
  pub allowed : All IsAllowedField fs
  pub rest : Stream
  pub read : ReadsValues fs S values rest
  pub stands : u ≡ Going (Some rest) (c + total (map field_shape fs))

-- From any known stream, values that are returned are those that the fields read from it.
abbrev pub FindsAny : List Field → Standing (Option Stream) → Result (List Number) DekuError → Standing (Option Stream) → Type 0
FindsAny fs s r u = (S : Stream) (c : ℕ) → s ≡ Going (Some S) c → IfOk r (λ ns. HasFound fs S c ns u)

-- From any bytes, values that are returned are those that the fields read from them.
abbrev pub FindsIn : List Field → List ℕ → Result (ℕ × Vec Number) DekuError → Type 0
FindsIn fs bytes r = IfOk r (λ v. All IsAllowedField fs × ((rest : Stream) × ReadsValues fs (fresh bytes) v.1.items rest))

-- ---- writing
-- The room has at least n bytes, if it is known.
abbrev pub HasRoom : Option (List ℕ) → ℕ → Type 0
HasRoom None n = ⊤
HasRoom (Some room) n = n ≤ length room

-- A sink that grows, and so has no known room, is out of memory.
abbrev pub FindsNoMemory : Option (List ℕ) → Result (Unit {0}) DekuError → Type 0
FindsNoMemory None r = r ≡ Err (Io OutOfMemory)
FindsNoMemory (Some room) r = ⊥

-- Aligned fitting items can be written as the bytes that they lay out: nothing is pending, the sink
-- has the room, and their bits can be counted.
pub record AreWritable (items : List Item) (bytes : List ℕ) (out : Output) (c : ℕ) : Type 0 where
  pub fitting : All IsFitting items
  pub aligned : AlignedFields (fields_of items)
  pub laid : LaysOut items bytes
  pub none : out.pending ≡ Nothing
  pub room : HasRoom out.room (length bytes)
  pub countable : c + 8 * length bytes < 2 ^ 64

-- The items were written: what the sink took, and then the padding of what is pending, are these
-- bytes.
pub record HasWritten (bytes : List ℕ) (out : Output) (c : ℕ) (u : Standing Output) : Type 0 where
  pub written : Written
  pub whole : written.bytes ++ padded written.pending ≡ bytes
  pub after : Output
  pub took : Took written out after
  pub stands : u ≡ Going after (c + 8 * length written.bytes)

-- Aligned fitting items are written when nothing is pending and there is room. Padded once, they
-- are exactly what they lay out.
abbrev pub WritesLaid : List Item → Standing Output → Result (Unit {0}) DekuError → Standing Output → Type 0
WritesLaid items s r u = (bytes : List ℕ) (out : Output) (c : ℕ) → AreWritable items bytes out c → s ≡ Going out c
    → ((r ≡ Ok tt) × HasWritten bytes out c u) ⊎ FindsNoMemory out.room r

-- If nothing is pending and there is room, aligned fitting items that are written and padded once
-- give the sink exactly what they lay out, or a sink that grows is out of memory.
abbrev pub PaddedLaw : Type 0
PaddedLaw = (items : List Item) (bytes : List ℕ) (out : Output) (c : ℕ) (r : Result (Unit {0}) DekuError) (u : Standing Output) → AreWritable items bytes out c
    → Both (WritesItems items) Finalizes false (Going out c) r u
    → ((r ≡ Ok tt) × ((after : Output) × Took (record { bytes = bytes; pending = Nothing }) out after × (u ≡ Going after (c + 8 * length bytes))))
    ⊎ FindsNoMemory out.room r

-- The bits of the bytes that items lay out can be counted.
abbrev pub IsCountable : List Item → Type 0
IsCountable items = (bytes : List ℕ) → LaysOut items bytes → 8 * length bytes < 2 ^ 64

-- Aligned fitting items are written as the bytes that they lay out.
abbrev pub LaidOut : List Item → Result (Vec ℕ) DekuError → Type 0
LaidOut items r = All IsFitting items → AlignedFields (fields_of items) → IsCountable items → MatchResult r (λ v. LaysOut items v.items) (λ e. e ≡ Io OutOfMemory)

-- Items whose aligned fields read their values from bytes are written as the bytes that were taken,
-- with the unread bits zero.
abbrev pub WritesBack : List Item → Result (Vec ℕ) DekuError → Type 0
WritesBack items r = (bytes : List ℕ) (T : Stream) → All IsAllowedField (fields_of items) → AlignedFields (fields_of items) → IsCountable items
    → All (λ b. b < 256) bytes → ReadsValues (fields_of items) (fresh bytes) (values_of items) T
    → MatchResult r (λ v. v.items ≡ cleared (last_order Msb0 (map field_shape (fields_of items))) (length T.window) (take (length bytes - length T.bytes) bytes)) (λ e. e ≡ Io OutOfMemory)
