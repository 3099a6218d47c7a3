use Rattle.std.proofs.Common.{rules}
use Rattle.deku_fields.proofs.words.parse_kind.Goals as goal

pub returns-in-u8 : goal.returns-in-u8
returns-in-u8 c = search rules

pub returns-in-u16 : goal.returns-in-u16
returns-in-u16 c = search rules

pub returns-in-u32 : goal.returns-in-u32
returns-in-u32 c = search rules

pub returns-in-u64 : goal.returns-in-u64
returns-in-u64 c = search rules

pub returns-in-u128 : goal.returns-in-u128
returns-in-u128 c = search rules

pub returns-in-usize : goal.returns-in-usize
returns-in-usize c = search rules

pub returns-in-i8 : goal.returns-in-i8
returns-in-i8 c = search rules

pub returns-in-i16 : goal.returns-in-i16
returns-in-i16 c = search rules

pub returns-in-i32 : goal.returns-in-i32
returns-in-i32 c = search rules

pub returns-in-i64 : goal.returns-in-i64
returns-in-i64 c = search rules

pub returns-in-i128 : goal.returns-in-i128
returns-in-i128 c = search rules

pub returns-in-isize : goal.returns-in-isize
returns-in-isize c = search rules

pub returns-in_default : goal.returns-in_default
returns-in_default c = search rules
