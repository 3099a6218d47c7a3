use Rattle.deku.proofs.Causes.{reads_number, reads_unsigned, shown, shown_unless}
use Rattle.deku.proofs.laws.plain_cause_law.Goals as goal

pub returns-clause-of_bool : goal.returns-clause-of_bool
returns-clause-of_bool g c x = shown_unless _ _ _ _ (reads_unsigned _ _)

pub returns-clause-of_ipv4 : goal.returns-clause-of_ipv4
returns-clause-of_ipv4 g c x = shown _ _ (reads_unsigned _ _)

pub returns-clause-of_ipv6 : goal.returns-clause-of_ipv6
returns-clause-of_ipv6 g c x = shown _ _ (reads_unsigned _ _)

pub returns-clause-of_non_zero_u8 : goal.returns-clause-of_non_zero_u8
returns-clause-of_non_zero_u8 g c x = shown_unless _ _ _ _ (reads_unsigned _ _)

pub returns-clause-of_non_zero_u16 : goal.returns-clause-of_non_zero_u16
returns-clause-of_non_zero_u16 g c x = shown_unless _ _ _ _ (reads_unsigned _ _)

pub returns-clause-of_non_zero_u32 : goal.returns-clause-of_non_zero_u32
returns-clause-of_non_zero_u32 g c x = shown_unless _ _ _ _ (reads_unsigned _ _)

pub returns-clause-of_non_zero_u64 : goal.returns-clause-of_non_zero_u64
returns-clause-of_non_zero_u64 g c x = shown_unless _ _ _ _ (reads_unsigned _ _)

pub returns-clause-of_non_zero_u128 : goal.returns-clause-of_non_zero_u128
returns-clause-of_non_zero_u128 g c x = shown_unless _ _ _ _ (reads_unsigned _ _)

pub returns-clause-of_non_zero_usize : goal.returns-clause-of_non_zero_usize
returns-clause-of_non_zero_usize g c x = shown_unless _ _ _ _ (reads_unsigned _ _)

pub returns-clause-of_non_zero_i8 : goal.returns-clause-of_non_zero_i8
returns-clause-of_non_zero_i8 g c x = shown_unless _ _ _ _ (reads_number _ _)

pub returns-clause-of_non_zero_i16 : goal.returns-clause-of_non_zero_i16
returns-clause-of_non_zero_i16 g c x = shown_unless _ _ _ _ (reads_number _ _)

pub returns-clause-of_non_zero_i32 : goal.returns-clause-of_non_zero_i32
returns-clause-of_non_zero_i32 g c x = shown_unless _ _ _ _ (reads_number _ _)

pub returns-clause-of_non_zero_i64 : goal.returns-clause-of_non_zero_i64
returns-clause-of_non_zero_i64 g c x = shown_unless _ _ _ _ (reads_number _ _)

pub returns-clause-of_non_zero_i128 : goal.returns-clause-of_non_zero_i128
returns-clause-of_non_zero_i128 g c x = shown_unless _ _ _ _ (reads_number _ _)

pub returns-clause-of_non_zero_isize : goal.returns-clause-of_non_zero_isize
returns-clause-of_non_zero_isize g c x = shown_unless _ _ _ _ (reads_number _ _)
