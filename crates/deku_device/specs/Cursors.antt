-- What is known of a cursor by its place.
use Rattle.std.specs.Prelude.{◌≡◌, ◌⊎◌, ◌≤◌, ◌+◌, ℕ, ◌-◌, List, [], ◌∷◌, ◌++◌, length, take, drop, replicate, Option, None, Some}
use Rattle.std.specs.Global.{Vec}
use Rattle.std.specs.Vec.{vec_capacity}
use Rattle.std.specs.Borrow.{MutBor}
use Rattle.std.specs.Io.Cursor.{cursor_remaining, cursor_position, cursor_inner}
use Rattle.std.specs.declared.io.Cursor.{Cursor}
use Rattle.deku_device.specs.Devices.{KnownSource, KnownSink, Whole, ReadOnly, Overwritten, Grows, bytes_before}

-- If all bytes are known, those from a cursor's place on are the next.
pub cursor_known : {T : Type 0} (bytes : T → Option (List ℕ)) (c : Cursor T) (at : ℕ) (all : List ℕ) → Some (cursor_position c) ≡ Some at → bytes (cursor_inner c) ≡ Some all → cursor_remaining bytes c ≡ Some (drop at all)
cursor_known bytes c at all p q = rw q (cc)

-- All bytes of a cursor that is read, with its place, if they are known.
abbrev pub read_whole : ℕ → Option (List ℕ) → Option Whole
read_whole at None = None
read_whole at (Some all) = Some (record { place = at; bytes = all; access = ReadOnly })

-- All bytes of a cursor over a slice that is written, with its place.
abbrev pub slice_whole : Cursor (MutBor (List ℕ)) → Option Whole
slice_whole c = Some (record { place = cursor_position c; bytes = (cursor_inner c).now; access = Overwritten })

-- All bytes of a cursor over a vector that is written, with its place.
abbrev pub vector_whole : Cursor (Vec ℕ) → Option Whole
vector_whole c = Some (record { place = cursor_position c; bytes = (cursor_inner c).items; access = Grows })

-- What is known of a cursor over bytes, if the bytes are known.
abbrev pub cursor_source : {T : Type 0} → (T → Option (List ℕ)) → Cursor T → KnownSource
cursor_source bytes c = record {
  remaining = cursor_remaining bytes c;
  health = record { failures = Some 0; lenders = []; whole = read_whole (cursor_position c) (bytes (cursor_inner c)) };
}

-- What is known of a cursor over a slice: the bytes before its place; its room is those after it.
abbrev pub known_slice : Cursor (MutBor (List ℕ)) → KnownSink
known_slice c = record {
  taken = bytes_before (cursor_position c) (cursor_inner c).now;
  room = Some (drop (cursor_position c) (cursor_inner c).now);
  health = record { failures = Some 0; lenders = (cursor_inner c).ghost_name ∷ []; whole = slice_whole c };
}

-- What is known of a cursor over a vector: the bytes before its place. Its room is as large as
-- there is memory.
abbrev pub known_vector : Cursor (Vec ℕ) → KnownSink
known_vector c = record {
  taken = bytes_before (cursor_position c) (cursor_inner c).items;
  room = None;
  health = record { failures = Some 0; lenders = []; whole = vector_whole c };
}

-- The front of the bytes, as many as fit after a place.
abbrev pub fitting_front : List ℕ → ℕ → List ℕ → List ℕ
fitting_front all place bytes = take (length all - place) bytes

-- Bytes with zeros after them, up to a place.
abbrev pub reaching : ℕ → List ℕ → List ℕ
reaching place all = all ++ replicate (place - length all) 0

-- A vector has room for eight bytes from a place on: over its own bytes, or at its end if its
-- capacity has space for them.
abbrev pub RoomForEight : ℕ → Vec ℕ → Type 0
RoomForEight place v = (place + 8 ≤ length v.items) ⊎ ((place ≡ length v.items) × (place + 8 ≤ vec_capacity v))
