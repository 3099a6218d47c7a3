-- Words of the numbers of fields, and the bits that any of them has.
use Rattle.std.proofs.Common.{◌≡◌, ℕ, ◌+◌, ◌*◌, ◌/◌, ◌%◌, ◌^◌, ◌<◌, ◌≤◌, bit_or, arith}
use Rattle.std.proofs.lemmas.Nat.{le_or_l, le_or_r, or_mod, or_shr}
use Rattle.deku_c.specs.declared.codes.FieldCode.{FieldCode}
use Rattle.deku_c.specs.Codes.{IsNamed, IsSmall, word_in}

-- of two numbers together, a byte is at least that of each
byte_l : (a b k : ℕ) → a / 2 ^ k % 2 ^ 8 ≤ bit_or a b / 2 ^ k % 2 ^ 8
byte_l a b k = rw (or_shr a b k, or_mod (a / 2 ^ k) (b / 2 ^ k) 8) (le_or_l (a / 2 ^ k % 2 ^ 8) (b / 2 ^ k % 2 ^ 8))

byte_r : (a b k : ℕ) → b / 2 ^ k % 2 ^ 8 ≤ bit_or a b / 2 ^ k % 2 ^ 8
byte_r a b k = rw (or_shr a b k, or_mod (a / 2 ^ k) (b / 2 ^ k) 8) (le_or_r (a / 2 ^ k % 2 ^ 8) (b / 2 ^ k % 2 ^ 8))

-- ---- if two numbers together are small, each is
pub small_l : (a b : ℕ) → IsSmall (bit_or a b) → IsSmall a
small_l a b s = record {
  kind = let low = rw (or_mod a b 8) at s.kind in omega (arith, low, le_or_l (a % 2 ^ 8) (b % 2 ^ 8));
  endian = omega (arith, s.endian, byte_l a b 8);
  order = omega (arith, s.order, byte_l a b 16);
  unit = let high = rw (or_shr a b 24) at s.unit in omega (arith, high, le_or_l (a / 2 ^ 24) (b / 2 ^ 24));
}

pub small_r : (a b : ℕ) → IsSmall (bit_or a b) → IsSmall b
small_r a b s = record {
  kind = let low = rw (or_mod a b 8) at s.kind in omega (arith, low, le_or_r (a % 2 ^ 8) (b % 2 ^ 8));
  endian = omega (arith, s.endian, byte_r a b 8);
  order = omega (arith, s.order, byte_r a b 16);
  unit = let high = rw (or_shr a b 24) at s.unit in omega (arith, high, le_or_r (a / 2 ^ 24) (b / 2 ^ 24));
}

-- ---- a field whose word is small
pub named : (c : FieldCode) → c.kind < 256 → c.endian < 256 → c.order < 256 → IsSmall (word_in c) → IsNamed c
named c k e o s = record {
  kind = omega (arith, k, e, o, s.kind);
  endian = omega (arith, k, e, o, s.endian);
  order = omega (arith, k, e, o, s.order);
  unit = omega (arith, k, e, o, s.unit);
}
