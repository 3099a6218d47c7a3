-- The worked examples of numbers, by computation; of values that do not fit, by the law of fields.
use Rattle.std.proofs.Common.{ℕ, ◌+◌, Bool, true, false, not, ◌&&◌, ◌||◌, leb, leb-true, List, [], ◌∷◌, length, ◌*◌, ◌-◌, ◌%◌, ◌^◌, ◌≡◌, ◌≤◌, ℤ, pos, neg_ℤ, refl, arith, ⊎_elim}
use Rattle.std.proofs.lemmas.Int.{ints}
use Rattle.deku_bits.specs.declared.ctx.Order.{Order}
use Rattle.deku_bits.specs.declared.ctx.Order.TheVariants.{Msb0, Lsb0}
use Rattle.deku_bits.specs.Bits.{bits_of, byte_bits, shown}
use Rattle.deku_bits.specs.Streams.{Stream, fresh, taken, left, skipped}
use Rattle.deku_bits.specs.Pieces.{same_order, laid_out}
use Rattle.deku_bits.specs.Writers.{append, padded}
use Rattle.deku_bits.specs.Symmetry.{packed, appended}
use Rattle.deku_num.specs.declared.ctx.Endian.{Endian}
use Rattle.deku_num.specs.declared.ctx.Endian.TheVariants.{Little, Big}
use Rattle.deku_num.specs.declared.ctx.Size.TheVariants.{Whole, Bits, Bytes}
use Rattle.deku_num.specs.declared.ctx.Layout.{Layout}
use Rattle.deku_num.specs.Numbers.{NumberType, byte, unsigned, signed, width, IsAllowed, number, value, IsEvenWhere, Fits}
use Rattle.deku_num.specs.NumberLaws.{InRange}
use Rattle.deku_num.specs.Rows.{Places, AreAllowed, widths, values_read, stream_left, pieces_taken, ReadAs, BothWays, big_msb, big_lsb, little_msb, RecordRows, NumberRows, PartRows, FitRows}
use Rattle.deku_num.proofs.Values.{field_law}

-- no wider than the type, and with a sign only in `Msb0`
abbrev pub plain : Places → Bool
plain [] = true
plain (f ∷ fs) = leb (width f.0 f.1) (f.0.bits) && ((not f.0.signed || same_order f.1.order Msb0) && plain fs)

-- two tests that are true together are each true
both : (a b : Bool) → a && b ≡ true → (a ≡ true) × (b ≡ true)
both true b e = (refl, e)
both false b e = absurd (cc e)

-- with no sign, or in `Msb0`, any width will do
even : (signed : Bool) (e : Endian) (o : Order) (n : ℕ) → (not signed || same_order o Msb0) ≡ true → IsEvenWhere signed e o n
even false e o n h = refl
even true Little o n h = refl
even true Big Msb0 n h = refl
even true Big Lsb0 n h = absurd (cc h)

-- such layouts are not refused
pub allowed_all : (places : Places) → plain places ≡ true → AreAllowed places
allowed_all [] h = tt
allowed_all (f ∷ fs) h =
    let first = both (leb (width f.0 f.1) (f.0.bits)) ((not f.0.signed || same_order f.1.order Msb0) && plain fs) h in
    let second = both (not f.0.signed || same_order f.1.order Msb0) (plain fs) first.1 in
    (record { within = leb-true (width f.0 f.1) (f.0.bits) first.0; even = even f.0.signed f.1.endian f.1.order (width f.0 f.1) second.0 }, allowed_all fs second.1)

-- a row of both ways by computation alone
both_ways : {places : Places} {bytes : List ℕ} {values : List ℤ} → plain places ≡ true → leb (widths places) (8 * length bytes) ≡ true
    → values_read places (fresh bytes) ≡ values
    → packed (pieces_taken places (fresh bytes)) ≡ bytes → laid_out (pieces_taken places (fresh bytes)) ≡ bytes → BothWays places bytes values
both_ways {places} {bytes} p n r w l =
    let enough : widths places ≤ 8 * length bytes = leb-true (widths places) (8 * length bytes) n in
    record { allowed = allowed_all places p; there = omega arith; read = r; written = w; laid = l }

-- and one of reading
read_as : {places : Places} {S : Stream} {values : List ℤ} {T : Stream} → plain places ≡ true → leb (widths places) (length S.window + 8 * length S.bytes) ≡ true
    → values_read places S ≡ values → stream_left places S ≡ T → ReadAs places S values T
read_as {places} {S} p n r l = record { allowed = allowed_all places p; there = leb-true (widths places) (length S.window + 8 * length S.bytes) n; read = r; leaves = l }

-- a value out of range under a layout that is not refused does not fit
misfit : (t : NumberType) (l : Layout) (v : ℤ) → IsAllowed t l → (InRange t.signed l.endian l.order (width t l) v → ⊥) → Fits t l v → ⊥
misfit t l v a outside f = outside ((field_law t l a v).0.0 f)

pub record_rows : RecordRows
unfolding bits_of byte_bits shown taken left append padded appended laid_out number value
record_rows = record {
  halves_then_word = both_ways refl refl refl refl refl;
  halves_then_other = both_ways refl refl refl refl refl;
  low_first = both_ways refl refl refl refl refl;
  two_orders = both_ways refl refl refl refl refl;
  two_orders_peeked = refl;
  two_orders_width = refl;
  word_across = both_ways refl refl refl refl refl;
  wide_across = both_ways refl refl refl refl refl;
  thirteen_little = both_ways refl refl refl refl refl;
  thirteen_big = both_ways refl refl refl refl refl;
  short_word = both_ways refl refl refl refl refl;
  pairs_of_six = both_ways refl refl refl refl refl;
  four_halves = both_ways refl refl refl refl refl;
  byte_and_four = both_ways refl refl refl refl refl;
  key_and_entry = both_ways refl refl refl refl refl;
  two_words = both_ways refl refl refl refl refl;
  three_lsb = both_ways refl refl refl refl refl;
  token_frame = both_ways refl refl refl refl refl;
  data_frame = both_ways refl refl refl refl refl;
  empty_frame = both_ways refl refl refl refl refl;
  pair_frame = both_ways refl refl refl refl refl;
}

pub number_rows : NumberRows
unfolding bits_of byte_bits shown taken left append padded appended laid_out number value
number_rows = record {
  three_bits = both_ways refl refl refl refl refl;
  three_signed = both_ways refl refl refl refl refl;
  ten_bits = both_ways refl refl refl refl refl;
  twelve_signed = both_ways refl refl refl refl refl;
  thirteen_bits = both_ways refl refl refl refl refl;
  thirteen_greatest = both_ways refl refl refl refl refl;
  no_bits = both_ways refl refl refl refl refl;
  no_bytes = both_ways refl refl refl refl refl;
  byte_of_nine = both_ways refl refl refl refl refl;
  little_word = both_ways refl refl refl refl refl;
  address = both_ways refl refl refl refl refl;
  short_address = both_ways refl refl refl refl refl;
  minus_two = both_ways refl refl refl refl refl;
  least = both_ways refl refl refl refl refl;
  two_lowest = both_ways refl refl refl refl refl;
  byte_of_300 = refl;
  byte_of_200 = refl;
}

pub part_rows : PartRows
unfolding bits_of byte_bits shown taken left skipped append padded appended laid_out number value
part_rows = record {
  six_bits = read_as refl refl refl refl;
  thirteen_bits = read_as refl refl refl refl;
  two_sixes = read_as refl refl refl refl;
  twelve_little = read_as refl refl refl refl;
  twelve_big = read_as refl refl refl refl;
  first_word = read_as refl refl refl refl;
  byte_behind_skip = read_as refl refl refl refl;
  frame_then_byte = read_as refl refl refl refl;
  two_bits_thrice = refl;
  two_bits = refl;
  three_lsb = refl;
  turned_written = refl;
  turned_first = refl;
  turned_second = refl;
  turned_read = refl;
  turned_width = refl;
  lowest_number = refl;
  lowest_written = refl;
}

pub fit_rows : FitRows
fit_rows = record {
  signed_thirteen = λ a. ⊎_elim (λ (h : 13 ≤ 8). absurd (omega arith)) (λ (h : 13 % 8 ≡ 0). absurd (omega arith)) a.even;
  nine_of_byte = λ a. let h : 9 ≤ 8 = a.within in omega arith;
  all_bytes = λ a. let h : 8 * (2 ^ 64 - 1) ≤ 16 = a.within in omega arith;
  any_bytes = record { within = omega arith; even = refl };
  any_bytes_width = refl;
  four_bits = misfit byte (big_msb (Bits 4)) (pos 16) (record { within = omega arith; even = refl }) (λ h. omega (arith, ints, h));
  one_byte = misfit byte (big_msb Whole) (pos 300) (record { within = omega arith; even = refl }) (λ h. omega (arith, ints, h));
  five_bits = misfit byte (big_msb (Bits 5)) (pos 32) (record { within = omega arith; even = refl }) (λ h. omega (arith, ints, h));
  eleven_bits = misfit (unsigned 16) (big_msb (Bits 11)) (pos 2048) (record { within = omega arith; even = refl }) (λ h. omega (arith, ints, h));
  ten_bits = misfit (unsigned 16) (little_msb (Bits 10)) (pos 0x400) (record { within = omega arith; even = refl }) (λ h. omega (arith, ints, h));
  thirteen_bits = misfit (unsigned 16) (big_lsb (Bits 13)) (pos 0x1020) (record { within = omega arith; even = refl }) (λ h. omega (arith, ints, h));
  three_signed = misfit (signed 8) (little_msb (Bits 3)) (pos 4) (record { within = omega arith; even = refl }) (λ h. omega (arith, ints, h));
  two_bytes = misfit (unsigned 32) (big_msb (Bytes 2)) (pos 0x01020304) (record { within = omega arith; even = refl }) (λ h. omega (arith, ints, h));
  long_address = misfit (unsigned 32) (big_msb (Bytes 2)) (pos 0x01000000) (record { within = omega arith; even = refl }) (λ h. omega (arith, ints, h));
  two_signed = misfit (signed 32) (big_msb (Bytes 2)) (pos 32768) (record { within = omega arith; even = refl }) (λ h. omega (arith, ints, h));
  no_bytes = misfit (unsigned 16) (little_msb (Bytes 0)) (pos 1) (record { within = omega arith; even = refl }) (λ h. omega (arith, ints, h));
  no_bits = misfit (signed 8) (little_msb (Bits 0)) (neg_ℤ (pos 1)) (record { within = omega arith; even = refl }) (λ h. omega (arith, ints, h));
}
