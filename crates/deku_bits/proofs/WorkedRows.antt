-- The worked examples of reading and writing bits, by computation.
use Rattle.std.proofs.Common.{◌≤◌, refl, arith}
use Rattle.deku_stream.specs.Bits.{bits_of, byte_bits, shown}
use Rattle.deku_stream.specs.Streams.{normal, taken, left, skipped}
use Rattle.deku_stream.specs.Writers.{append, padded}
use Rattle.deku_bits.specs.Rows.{ReadRows, SkipRows, ShortRows, WriteRows}

pub read_rows : ReadRows
unfolding bits_of byte_bits shown taken left
read_rows = record {
  digits = refl;
  two_msb = refl;
  two_msb_rest = refl;
  low_bit_first = refl;
  low_half_first = refl;
  across_bytes = refl;
  touched_first = refl;
  touched_all = refl;
  touched_to_end = refl;
  high_bits_left = refl;
  then_lsb = refl;
  then_msb = refl;
  bytes_inside = refl;
  bytes_inside_rest = refl;
  nine_bits = refl;
}

pub skip_rows : SkipRows
unfolding bits_of byte_bits shown taken left skipped normal
skip_rows = record {
  peek = refl;
  peek_normal = refl;
  peek_read = refl;
  peek_read_rest = refl;
  peek_touched = refl;
  peek_each = refl;
  peek_skip = refl;
  skip_msb = refl;
  skip_lsb = refl;
  skip_half = refl;
  skip_half_rest = refl;
}

pub short_rows : ShortRows
unfolding bits_of byte_bits taken left skipped
short_rows = record {
  nothing = λ (h : 4 ≤ 0). omega arith;
  one_byte = λ (h : 16 ≤ 0). omega arith;
  two_bytes = λ (h : 16 ≤ 8). omega arith;
  three_bytes = let h : 16 ≤ 16 = omega arith in h;
  thirteen = λ (h : 13 ≤ 8). omega arith;
  byte_behind = λ (h : 8 ≤ 0). omega arith;
  bit_behind = λ (h : 1 ≤ 0). omega arith;
  bit_behind_peek = λ (h : 1 ≤ 0). omega arith;
  half_behind_skip = λ (h : 4 ≤ 0). omega arith;
  skip_past = λ (h : 8 ≤ 0). omega arith;
}

pub write_rows : WriteRows
unfolding bits_of shown append padded
write_rows = record {
  both_msb = refl;
  both_lsb = refl;
  lsb_then_msb = refl;
  msb_then_lsb = refl;
  halves_msb = refl;
  halves_lsb = refl;
  halves_mixed = refl;
  empty_between = refl;
  bytes_behind_lsb = refl;
  text_behind_lsb = refl;
  nine_behind_msb = refl;
  eight_behind_msb = refl;
  across_bytes = refl;
  bytes_and_bits = refl;
  pending_lsb = refl;
  padded_lsb = refl;
  padded_twice = refl;
  nine_bits = refl;
  nine_bits_padded = refl;
  five_pending = refl;
  twenty_four_bits = refl;
}
