-- Bits onto held bits, without a sink: the bytes that fill, and a sink that takes them then.
use Rattle.std.proofs.Common.{◌≡◌, ◌⊎◌, ⊎_elim, ℕ, zero, suc, ◌+◌, ◌*◌, ◌/◌, ◌%◌, ◌<◌, ◌≤◌, Bool, true, false, List, [], ◌∷◌, ◌++◌, length, take, drop, MutBor, inl, inr, Some, None, nat_le, if◌then◌else◌, refl, sym, ap, ap₂, ◌∙◌, arith, subst}
use Rattle.std.proofs.Math.Dec.{leb-zero}
use Rattle.std.specs.Borrow.{GName}
use Rattle.std.specs.Io.KnownBytes.{Appends}
use Rattle.std.specs.Io.Cursor.{cursor_position, cursor_inner}
use Rattle.std.specs.declared.io.Cursor.{Cursor}
use Rattle.std.specs.declared.io.ErrorKind.{ErrorKind}
use Rattle.deku_stream.specs.declared.ctx.Order.{Order}
use Rattle.deku_stream.specs.declared.ctx.Order.TheVariants.{Msb0}
use Rattle.deku_stream.specs.Bits.{bits_of, facing, shown}
use Rattle.deku_stream.specs.Writers.{held, pending_bits, cut, append, Meets}
use Rattle.deku_device.specs.Cursors.{known_slice}
use Rattle.deku_device.specs.Devices.{KnownSink, Gave, bytes_before}
use Rattle.deku_writer.specs.Pushing.{onto_bytes, word_bits, Fills, FillsOnto, Pushed, GaveUp, PushedOnto}
use Rattle.deku_stream.proofs.Appends.{count_law}
use Rattle.deku_stream.proofs.Binary.{facing-facing, length-facing, length-bits_of}
use Rattle.deku_stream.proofs.Shown.{length-shown, shown-shown}
use Rattle.deku_stream.proofs.Writing.{pending_bits-held}
use Rattle.deku_writer.proofs.Fills.{Fills-short}
use Rattle.deku_writer.proofs.Onto.{append_same, empty_onto}
use Rattle.deku_writer.proofs.WordsWritten.{length-shown_word}

-- ---- after bits of the same order, or after none
same_filled : (o : Order) (h hs bits : List Bool) (out : List ℕ) → 0 < length bits → Fills o h hs (shown o bits) out → FillsOnto o o h hs bits out
same_filled o h hs bits out some f =
    let e : append o bits (held o h) ≡ cut o (facing o h ++ shown o bits) = append_same o h bits some in
    record {
      bytes = f.bytes ∙ sym (ap (λ W. W.bytes) e);
      rest = ap (held o) (sym (facing-facing o hs) ∙ ap (facing o) f.rest) ∙ sym (ap (λ W. W.pending) e);
      short = Fills-short f;
    }

none_filled : (from to : Order) (h hs bits : List Bool) (out : List ℕ) → length h ≡ 0 → 0 < length bits → Fills to h hs (shown to bits) out → FillsOnto from to h hs bits out
none_filled from to [] hs bits out none some f =
    let e : append to bits (held to []) ≡ cut to (facing to [] ++ shown to bits) = append_same to [] bits some in
    record {
      bytes = f.bytes ∙ sym (ap (λ W. W.bytes) e);
      rest = ap (held to) (sym (facing-facing to hs) ∙ ap (facing to) f.rest) ∙ sym (ap (λ W. W.pending) e);
      short = Fills-short f;
    }
none_filled from to (x ∷ h) hs bits out none some f = absurd (omega arith)

pub word_behind : (from to : Order) (h hs : List Bool) (n w : ℕ) (out : List ℕ) → (length h ≡ 0) ⊎ (from ≡ to) → 0 < n → Fills to h hs (word_bits to n w) out
    → FillsOnto from to h hs (shown to (word_bits to n w)) out
word_behind from to h hs n w out behind some f =
    let bits : List Bool = shown to (word_bits to n w) in
    let long : 0 < length bits = rw length-shown_word some in
    let g : Fills to h hs (shown to bits) out = subst (λ x. Fills to h hs x out) (sym (shown-shown to (word_bits to n w))) f in
    ⊎_elim (λ none. none_filled from to h hs bits out none long g) (λ same. rw same (same_filled to h hs bits out long g)) behind

-- bits of this order are pending, or none
pub behind_meets : (from to : Order) (h : List Bool) → (length h ≡ 0) ⊎ (from ≡ to) → Meets to (held from h)
behind_meets from to [] behind = refl
behind_meets from to (x ∷ h) behind = ⊎_elim (λ none. absurd (omega (arith, none))) (λ same. sym same) behind

-- the bits of a number
pub number_behind : (from to : Order) (h hs : List Bool) (n k : ℕ) (out : List ℕ) → (length h ≡ 0) ⊎ (from ≡ to) → 0 < n → Fills to h hs (facing to (bits_of n k)) out
    → FillsOnto from to h hs (shown to (facing to (bits_of n k))) out
number_behind from to h hs n k out behind some f =
    let s : List Bool = facing to (bits_of n k) in
    let long : 0 < length (shown to s) = rw (length-shown, length-facing, length-bits_of) some in
    let g : Fills to h hs (shown to (shown to s)) out = subst (λ x. Fills to h hs x out) (sym (shown-shown to s)) f in
    ⊎_elim (λ none. none_filled from to h hs (shown to s) out none long g) (λ same. rw same (same_filled to h hs (shown to s) out long g)) behind

-- a sink took the bytes
pub onto_given : (a b : KnownSink) (from to : Order) (h hs bits : List Bool) (out : List ℕ) → FillsOnto from to h hs bits out → Gave a b out → PushedOnto a b from to h hs bits
onto_given a b from to h hs bits out f g = record { gave = subst (λ x. Gave a b x) f.bytes g; rest = f.rest; short = f.short }

-- a sink gave up
pub onto_declined : (a b : KnownSink) (from to : Order) (h hs bits : List Bool) (out : List ℕ) (k : ErrorKind) → FillsOnto from to h hs bits out → GaveUp a b out k
    → GaveUp a b (onto_bytes from to h bits) k
onto_declined a b from to h hs bits out k f g = subst (λ x. GaveUp a b x k) f.bytes g

-- a slice that has room for them does not
pub room_enough : (c d : Cursor (MutBor (List ℕ))) (from to : Order) (h bits : List Bool) (k : ErrorKind) → cursor_position c ≡ 0 → length h < 8
    → (length h + length bits) / 8 ≤ length (cursor_inner c).now → GaveUp (known_slice c) (known_slice d) (onto_bytes from to h bits) k → ⊥
room_enough c d from to h bits k begins less room f =
    let few : length (pending_bits (held from h)) < 8 = rw pending_bits-held less in
    let all = count_law.0 to bits (held from h) few in
    let behind : length (drop (cursor_position c) (cursor_inner c).now) ≡ length (cursor_inner c).now = rw begins refl in
    elim f.declined.cause [
      | inl more ↦ let l = more.failures in omega (arith, l)
      | inr lacks ↦ omega (arith, lacks.1, behind, room, all.0, all.1, ap length (pending_bits-held from h))
    ]

-- how many bytes fill, and how many bits are held then
module _ (from to : Order) (h hs bits : List Bool) (out : List ℕ) (less : length h < 8) (f : FillsOnto from to h hs bits out) where
  onto_all : 8 * length out + length hs ≡ length h + length bits
  onto_all =
      let few : length (pending_bits (held from h)) < 8 = rw pending_bits-held less in
      ap₂ (λ x y. 8 * length x + length y) f.bytes (sym (pending_bits-held to hs) ∙ ap pending_bits f.rest)
      ∙ (count_law.0 to bits (held from h) few).0
      ∙ ap (λ x. length x + length bits) (pending_bits-held from h)

  pub onto_count : length out ≡ (length h + length bits) / 8
  onto_count = omega (arith, onto_all, f.short)

  pub onto_rest : length hs ≡ (length h + length bits) % 8
  onto_rest = omega (arith, onto_all, f.short)

-- ---- bits that went out to room that has enough of it
front_again : (n : ℕ) (xs : List ℕ) → take (length (take n xs)) xs ≡ take n xs
front_again zero xs = refl
front_again (suc n) [] = refl
front_again (suc n) (x ∷ xs) = ap (λ l. x ∷ l) (front_again n xs)

first_taken : (q : ℕ) (all bytes : List ℕ) → Appends (Some []) (bytes_before q all) bytes → take (length bytes) all ≡ bytes
first_taken q all bytes = go (nat_le q (length all))
  where
    go : (fits : Bool) → Appends (Some []) (if fits then Some (take q all) else None) bytes → take (length bytes) all ≡ bytes
    go true e = subst (λ x. take (length x) all ≡ x) e (front_again q all)
    go false e = absurd e

one_name : (k n : GName) → k ∷ [] ≡ n ∷ [] → k ≡ n
one_name k n e = cc

module _ (c d : Cursor (MutBor (List ℕ))) (begins : cursor_position c ≡ 0) where
  laid_first : (bytes : List ℕ) → Gave (known_slice c) (known_slice d) bytes → take (length bytes) (cursor_inner d).now ≡ bytes
  laid_first bytes g =
      let none : bytes_before (cursor_position c) (cursor_inner c).now ≡ Some [] = rw begins (rw (leb-zero (length (cursor_inner c).now)) refl) in
      first_taken (cursor_position d) (cursor_inner d).now bytes (subst (λ t. Appends t (bytes_before (cursor_position d) (cursor_inner d).now) bytes) none g.taken)

  pub filled_room : (from to : Order) (h hs bits : List Bool) (n : ℕ) (out : List ℕ) → length h < 8 → length bits ≡ n → out ≡ (cursor_inner d).now
      → PushedOnto (known_slice c) (known_slice d) from to h hs bits → FillsOnto from to h hs bits (take ((length h + n) / 8) out)
  filled_room from to h hs bits n out less long is p =
      let bytes : List ℕ = (append to bits (held from h)).bytes in
      let f : FillsOnto from to h hs bits bytes = record { bytes = refl; rest = p.rest; short = p.short } in
      let count : (length h + n) / 8 ≡ length bytes = ap (λ k. (length h + k) / 8) (sym long) ∙ sym (onto_count from to h hs bits bytes less f) in
      let same : take ((length h + n) / 8) out ≡ bytes = ap₂ (λ k l. take k l) count is ∙ laid_first bytes p.gave in
      subst (λ x. FillsOnto from to h hs bits x) (sym same) f

  pub same_room : (bytes : List ℕ) → Gave (known_slice c) (known_slice d) bytes → (cursor_inner d).ghost_name ≡ (cursor_inner c).ghost_name
  same_room bytes g = one_name (cursor_inner d).ghost_name (cursor_inner c).ghost_name g.health.lenders
