-- A reader or a writer that has stopped stays as it was, call by call.
use Rattle.std.proofs.Common.{◌≡◌, ℕ, Bool, false, List, Ok, ap, ◌∙◌, subst, inl, inr}
use Rattle.deku_bits.specs.declared.error.DekuError.{DekuError}
use Rattle.deku_bits.specs.Writers.{Pending}
use Rattle.deku_bits.specs.Devices.{KnownSource, KnownSink}
use Rattle.deku_bits.specs.Standings.{Standing, Going, Stopped, Output, output_of, Untouched, reader_state, writer_state}
use Rattle.deku_bits.specs.ReaderCalls.{ReadsAt}
use Rattle.deku_bits.specs.WriterCalls.{WritesAt}
use Rattle.deku_bits.proofs.Handing.{meant}
use Rattle.deku_num.specs.NumberCalls.{WritesNumber, Refused, Passed}
use Rattle.deku_fields.specs.declared.list.Number.{Number}
use Rattle.deku_fields.specs.declared.list.Field.{Field}
use Rattle.deku_fields.specs.declared.list.Item.{Item}
use Rattle.deku_fields.specs.Items.{number_type}
use Rattle.deku_fields.specs.ListCalls.{integer_of, ReadsField, WritesItem}
use Rattle.deku_fields.proofs.Fetching.{field_took}

-- nothing was done yet
pub rests : {A D : Type 0} (s : Standing A) {x y : D} → y ≡ x → Untouched s x y
rests (Going a c) e = tt
rests (Stopped a f c) e = e

-- a part of what stays
pub rests_in : {A D E : Type 0} (h : D → E) (s : Standing A) (x y : D) → Untouched s x y → Untouched s (h x) (h y)
rests_in h (Going a c) x y k = tt
rests_in h (Stopped a f c) x y k = ap h k

-- one call more
pub rests_on : {A D : Type 0} (s t : Standing A) (x y z : D) → Untouched s s t → Untouched s x y → Untouched t y z → Untouched s x z
rests_on (Going a c) t x y z k p q = tt
rests_on {A} (Stopped a f c) t x y z k p q = let r : Untouched {A = A} (Stopped a f c) y z = subst (λ w. Untouched {A = A} w y z) k q in r ∙ p

-- what reads a field has not stopped
pub field_going : {D : Type 0} (f : Field) (n : Number) (told after : KnownSource) (s t u : Standing (List Bool)) (x y : D) → Untouched s s t → ReadsAt (ReadsField f) told t (Ok n) after u → Untouched s x y
field_going f n told after (Going w c) t u x y k reads = tt
field_going f n told after (Stopped w e c) t u x y k reads =
    let took = field_took f n (reader_state told.remaining (Stopped w e c)) (reader_state after.remaining u) (subst (λ z. ReadsField f false (reader_state told.remaining z) (Ok n) (reader_state after.remaining u)) k (meant reads).0) in
    let bad = took.1.0 in absurd (cc)

-- what writes an item has not stopped
no_item : (i : Item) (out : Output) (e : DekuError) (c : ℕ) (u : Standing Output) → WritesItem i false (Stopped out e c) (Ok tt) u → ⊥
no_item i out e c u (Refused b p) = let bad = p.1.2 in cc
no_item i out e c u (Passed p) = no_number p.1
  where
    no_number : WritesNumber (number_type i.field.kind) i.field.layout (integer_of i.value) false (Stopped out e c) (Ok tt) u → ⊥
    no_number (Refused b p) = let bad = p.2 in cc
    no_number (Passed (Refused b p)) = let bad = p.2.2 in cc
    no_number (Passed (Passed p)) = let bad = p.1.2.0 in cc

pub item_going : {D : Type 0} (i : Item) (told after : KnownSink) (s t u : Standing Pending) (x y : D) → Untouched s s t → WritesAt (WritesItem i) told t (Ok tt) after u → Untouched s x y
item_going i told after (Going w c) t u x y k writes = tt
item_going i told after (Stopped w e c) t u x y k writes =
    absurd (no_item i (output_of told w) e c (writer_state after u) (subst (λ z. WritesItem i false (writer_state told z) (Ok tt) (writer_state after u)) k (meant writes).0))
