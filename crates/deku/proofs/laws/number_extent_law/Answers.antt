use Rattle.std.proofs.Common.{pos, refl, arith}
use Rattle.deku_num.specs.Numbers.{byte, unsigned, signed}
use Rattle.deku_meanings.specs.Shapes.{numeral}
use Rattle.deku.proofs.Whole.{below_byte}
use Rattle.deku.proofs.Sizing.{number_kept}
use Rattle.deku.proofs.laws.number_extent_law.Goals as goal

pub returns-clause-of_u8 : goal.returns-clause-of_u8
returns-clause-of_u8 c v i = number_kept byte _ (pos v) (record { some = omega arith; bytes = refl; whole = refl; in_type = i })

pub returns-clause-of_u16 : goal.returns-clause-of_u16
returns-clause-of_u16 c v i = number_kept (unsigned 16) _ (pos v) (record { some = omega arith; bytes = refl; whole = refl; in_type = i })

pub returns-clause-of_u32 : goal.returns-clause-of_u32
returns-clause-of_u32 c v i = number_kept (unsigned 32) _ (pos v) (record { some = omega arith; bytes = refl; whole = refl; in_type = i })

pub returns-clause-of_u64 : goal.returns-clause-of_u64
returns-clause-of_u64 c v i = number_kept (unsigned 64) _ (pos v) (record { some = omega arith; bytes = refl; whole = refl; in_type = i })

pub returns-clause-of_u128 : goal.returns-clause-of_u128
returns-clause-of_u128 c v i = number_kept (unsigned 128) _ (pos v) (record { some = omega arith; bytes = refl; whole = refl; in_type = i })

pub returns-clause-of_usize : goal.returns-clause-of_usize
returns-clause-of_usize c v i = number_kept (unsigned 64) _ (pos v) (record { some = omega arith; bytes = refl; whole = refl; in_type = i })

pub returns-clause-of_i8 : goal.returns-clause-of_i8
returns-clause-of_i8 c v i = number_kept (signed 8) _ v (record { some = omega arith; bytes = refl; whole = refl; in_type = i })

pub returns-clause-of_i16 : goal.returns-clause-of_i16
returns-clause-of_i16 c v i = number_kept (signed 16) _ v (record { some = omega arith; bytes = refl; whole = refl; in_type = i })

pub returns-clause-of_i32 : goal.returns-clause-of_i32
returns-clause-of_i32 c v i = number_kept (signed 32) _ v (record { some = omega arith; bytes = refl; whole = refl; in_type = i })

pub returns-clause-of_i64 : goal.returns-clause-of_i64
returns-clause-of_i64 c v i = number_kept (signed 64) _ v (record { some = omega arith; bytes = refl; whole = refl; in_type = i })

pub returns-clause-of_i128 : goal.returns-clause-of_i128
returns-clause-of_i128 c v i = number_kept (signed 128) _ v (record { some = omega arith; bytes = refl; whole = refl; in_type = i })

pub returns-clause-of_isize : goal.returns-clause-of_isize
returns-clause-of_isize c v i = number_kept (signed 64) _ v (record { some = omega arith; bytes = refl; whole = refl; in_type = i })

pub returns-clause-of_bool : goal.returns-clause-of_bool
returns-clause-of_bool c v = number_kept byte _ (pos (numeral v)) (record { some = omega arith; bytes = refl; whole = refl; in_type = (numeral v, refl, below_byte v) })
