-- What a list reads from bytes that begin with its layout.
use Rattle.std.proofs.Common.{◌≡◌, ℕ, ◌<◌, ◌^◌, false, Result, Ok, Err, Option, Some, None, OnOk, ne_eqb, List, [], ◌∷◌, ◌++◌, map, All, Bool, refl, ap, sym, ◌∙◌, subst, inl, inr, arith, ◌+◌, ◌*◌, length}
use Rattle.std.proofs.lemmas.List.Elements.{All-cons, All-head, All-nil, All-tail}
use Rattle.std.specs.declared.io.ErrorKind.TheVariants.{OutOfMemory}
use Rattle.deku_bits.specs.declared.error.DekuError.{DekuError}
use Rattle.deku_bits.specs.declared.error.DekuError.TheVariants.{Io}
use Rattle.deku_bits.specs.Streams.{Stream, bit_count, left, fresh, normal}
use Rattle.deku_bits.proofs.Skips.{left_count}
use Rattle.deku_bits.specs.Pieces.{laid_out, total}
use Rattle.deku_bits.specs.Devices.{Health}
use Rattle.deku_bits.specs.Outcomes.{Outcome}
use Rattle.deku_bits.specs.Standings.{Standing, Going, Stopped, reader_state, count_of}
use Rattle.deku_bits.specs.ReaderCalls.{NoneEarly, filling, window_of}
use Rattle.deku_bits.proofs.Handing.{weaker}
use Rattle.deku.proofs.Exact.{ok_is}
use Rattle.deku_fields.specs.declared.list.Number.{Number}
use Rattle.deku_fields.specs.declared.list.Field.{Field}
use Rattle.deku_fields.specs.declared.list.Item.{Item}
use Rattle.deku_fields.specs.Items.{IsFitting, IsAllowedField, AlignedFields, ReadsValues, fields_of, values_of, field_shape, field_width}
use Rattle.deku_fields.specs.ListCalls.{ReadsFields, ReadsList}
use Rattle.deku_fields.specs.Promise.{Unfailing, Begins, ReadsBack, ReadsBackVec}
use Rattle.deku_fields.proofs.Sound.{sound}
use Rattle.deku_fields.proofs.FieldLists.{there_law}
use Rattle.deku_fields.proofs.ReadingLists.{fields_give}

allowed_all : (items : List Item) → All IsFitting items → All IsAllowedField (fields_of items)
allowed_all [] all = All-nil IsAllowedField
allowed_all (i ∷ is) all = All-cons IsAllowedField i.field (fields_of is) (All-head IsFitting i is all).allowed (allowed_all is (All-tail IsFitting i is all))

-- what fields leave of a stream has the bits that they did not take
reads_count : (fs : List Field) (ns : List Number) (S T : Stream) → ReadsValues fs S ns T → total (map field_shape fs) + bit_count T ≡ bit_count S
reads_count [] [] S T r = let same : bit_count T ≡ bit_count S = ap bit_count (sym r) in omega (arith, same)
reads_count [] (n ∷ ns) S T r = absurd r
reads_count (f ∷ fs) [] S T r = absurd r
reads_count (f ∷ fs) (n ∷ ns) S T r =
    let R : Stream = left f.layout.order (field_width f) S in
    let first : field_width f + bit_count R ≡ bit_count S = left_count f.layout.order (field_width f) S r.0 in
    let others : total (map field_shape fs) + bit_count T ≡ bit_count R = reads_count fs ns R T r.2 in
    omega (arith, first, others)

-- what is read before bytes that begin with a layout
pub read_back : (fs : List Field) (r : Result (List Number) DekuError) (s u : Standing (Option Stream)) → ReadsFields fs false s r u → ReadsBack fs s r u
read_back fs r s u m items bytes after c b e room =
    let T = (there_law items b.laid.pieces (b.fitting) (subst AlignedFields (sym b.of_fields) b.aligned) b.laid.are).1 after in
    let whole : bytes ≡ laid_out b.laid.pieces ++ after = b.begins ∙ ap (λ x. x ++ after) b.laid.is in
    let reads : ReadsValues fs (fresh bytes) (values_of items) T.0 =
    subst (λ x. ReadsValues x (fresh bytes) (values_of items) T.0) (b.of_fields) (subst (λ x. ReadsValues (fields_of items) (fresh x) (values_of items) T.0) (sym whole) T.1) in
    let allowed : All IsAllowedField fs = subst (All IsAllowedField) (b.of_fields) (allowed_all items b.fitting) in
    let d = fields_give fs (values_of items) (fresh bytes) T.0 c allowed reads room r u (subst (λ x. ReadsFields fs false x r u) e m) in
    let count : total (map field_shape fs) + bit_count T.0 ≡ bit_count (fresh bytes) = reads_count fs (values_of items) (fresh bytes) T.0 reads in
    let unread : total (map field_shape fs) + length T.0.window + 8 * length after ≡ 8 * length bytes = omega (arith, count, ap length T.2) in
    (d.0, record { rest = T.0; read = reads; behind = T.2; unread = unread; stands = d.1 })

-- an outcome over a source that does not fail
pub fields_back : (fs : List Field) {r : Result (List Number) DekuError} {s u : Standing (Option Stream)} {f g : Health}
    → Outcome (ReadsFields fs) s f r u g → Unfailing f g → ReadsBack fs s r u
fields_back fs o calm = read_back fs _ _ _ (sound o calm)

-- the same in memory that is found first
pub vec_back : (fs : List Field) {r : Result (List Number) DekuError} {s u : Standing (Option Stream)} {f g : Health}
    → Outcome (ReadsList fs) s f r u g → Unfailing f g → ReadsBackVec fs s r u
vec_back fs {r} {s} {u} o calm = elim (sound o calm) [
  | inl p ↦ inl (p.1, p.2)
  | inr m ↦ inr (read_back fs r s u m)
]

-- fields that are read are read into memory that was found
pub found : (fs : List Field) {r : Result (List Number) DekuError} {s u : Standing (Option Stream)} {f g : Health}
    → Outcome (ReadsFields fs) s f r u g → Outcome (ReadsList fs) s f r u g
found fs {r} {s} {u} {f} {g} o = weaker (ReadsFields fs) (ReadsList fs) s f r u g (λ b m. inr m) o

-- ---- the bytes after
normal_short : (S : Stream) → length S.window < 8 → normal S ≡ S
unfolding normal
normal_short S l = rw (ne_eqb (length S.window) 8 (λ (e : length S.window ≡ 8). omega arith)) refl

-- a source reports the bytes of the stream, where no whole byte is unread
source_tells : (remaining : Option (List ℕ)) (st : Standing (List Bool)) (rest : Stream) (c : ℕ) → length (window_of st) < 8
    → reader_state remaining st ≡ Going (Some rest) c → remaining ≡ Some rest.bytes
source_tells remaining (Stopped w e k) rest c l q = absurd (cc)
source_tells None (Going w k) rest c l q = absurd (cc)
source_tells (Some ys) (Going w k) rest c l q =
    let S : Stream = record { window = w; bytes = ys } in
    let same : normal S ≡ rest = cc in
    ap (λ x. Some x.bytes) (sym (normal_short S l) ∙ same)

no_whole_byte : (s t : Standing (List Bool)) (c : ℕ) → s ≡ Going [] c → NoneEarly s t → length (window_of t) < 8
no_whole_byte s t c e (inl l) = l
no_whole_byte s t c e (inr same) = rw (same, e) (omega arith)

starts_at : (remaining : Option (List ℕ)) (bytes : List ℕ) (st : Standing (List Bool)) (c : ℕ) → remaining ≡ Some bytes → st ≡ Going [] c
    → reader_state remaining st ≡ Going (Some (fresh bytes)) c
unfolding normal
starts_at remaining bytes st c e f = rw (e, f) refl

-- the bytes after a list that was read are those that its source reports
pub left_behind : (fs : List Field) (r : Result (List Number) DekuError) (before now : Option (List ℕ)) (s t : Standing (List Bool)) (items : List Item) (bytes after : List ℕ) (c : ℕ)
    → Begins fs items bytes after → s ≡ Going [] c → before ≡ Some bytes → c + total (map field_shape fs) < 2 ^ 64 → NoneEarly s t
    → ReadsBackVec fs (reader_state before s) r (reader_state now t) → OnOk r (now ≡ Some after)
left_behind fs (Err x) before now s t items bytes after c begins stands tells room early back = tt
left_behind fs (Ok ns) before now s t items bytes after c begins stands tells room early (inl p) = let f = p.0 in absurd (cc)
left_behind fs (Ok ns) before now s t items bytes after c begins stands tells room early (inr b) =
    let d = (b items bytes after c begins (starts_at before bytes s c tells stands) room).1 in
    source_tells now t d.rest (c + total (map field_shape fs)) (no_whole_byte s t c stands early) d.stands ∙ ap Some d.behind

-- a buffer that was filled holds what was read
pub filled : (r : Result (Unit {0}) DekuError) (ns vs : List Number) → filling r ns ≡ Ok vs → (r ≡ Ok tt) × (ns ≡ vs)
filled (Ok tt) ns vs e = (refl, ok_is ns vs e)
filled (Err x) ns vs e = absurd (cc)

-- a list that is read from the first byte on has read back what the bytes begin with
pub back_ok : (fs : List Field) (bytes : List ℕ) (ns : List Number) (n : ℕ) (s u : Standing (Option Stream))
    → s ≡ Going (Some (fresh bytes)) 0 → ReadsBackVec fs s (Ok ns) u → n ≡ count_of u
    → (items : List Item) (after : List ℕ) → Begins fs items bytes after → total (map field_shape fs) < 2 ^ 64
    → (n ≡ total (map field_shape fs)) × (ns ≡ values_of items)
back_ok fs bytes ns n s u e (inl p) counted items after begins room = let f = p.0 in absurd (cc)
back_ok fs bytes ns n s u e (inr b) counted items after begins room =
    let d = b items bytes after 0 begins e (omega arith) in
    (counted ∙ ap count_of (d.1.stands) ∙ omega arith, ok_is ns (values_of items) d.0)

-- a list that is refused found no memory
pub back_err : (fs : List Field) (bytes : List ℕ) (x : DekuError) (s u : Standing (Option Stream))
    → s ≡ Going (Some (fresh bytes)) 0 → ReadsBackVec fs s (Err x) u
    → (items : List Item) (after : List ℕ) → Begins fs items bytes after → total (map field_shape fs) < 2 ^ 64 → x ≡ Io OutOfMemory
back_err fs bytes x s u e (inl p) items after begins room = let f = p.0 in cc
back_err fs bytes x s u e (inr b) items after begins room = let f = (b items bytes after 0 begins e (omega arith)).0 in absurd (cc)

-- what is read from where a reader is is read from the first byte on
pub from_first : (fs : List Field) (bytes : List ℕ) (r : Result (List Number) DekuError) (s u : Standing (Option Stream))
    → s ≡ Going (Some (fresh bytes)) 0 → ReadsList fs false s r u → ReadsList fs false (Going (Some (fresh bytes)) 0) r u
from_first fs bytes r s u e m = subst (λ x. ReadsList fs false x r u) e m
