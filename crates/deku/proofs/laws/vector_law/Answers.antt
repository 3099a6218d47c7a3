use Rattle.std.proofs.Common.{pos}
use Rattle.deku_num.specs.Numbers.{byte, unsigned, signed}
use Rattle.deku_num.specs.NumberCalls.{ReadsUnsigned, ReadsNumber}
use Rattle.deku.proofs.SeenVectors.{read_as_written, unsigned_one, unsigned_seen, signed_one, signed_seen}
use Rattle.deku.proofs.laws.vector_law.Goals as goal

pub returns-clause-of_u8 : goal.returns-clause-of_u8
returns-clause-of_u8 g c = λ x. read_as_written byte _ pos (ReadsUnsigned byte _) unsigned_one (unsigned_seen byte _)

pub returns-clause-of_u16 : goal.returns-clause-of_u16
returns-clause-of_u16 g c = λ x. read_as_written (unsigned 16) _ pos (ReadsUnsigned (unsigned 16) _) unsigned_one (unsigned_seen (unsigned 16) _)

pub returns-clause-of_u32 : goal.returns-clause-of_u32
returns-clause-of_u32 g c = λ x. read_as_written (unsigned 32) _ pos (ReadsUnsigned (unsigned 32) _) unsigned_one (unsigned_seen (unsigned 32) _)

pub returns-clause-of_u64 : goal.returns-clause-of_u64
returns-clause-of_u64 g c = λ x. read_as_written (unsigned 64) _ pos (ReadsUnsigned (unsigned 64) _) unsigned_one (unsigned_seen (unsigned 64) _)

pub returns-clause-of_u128 : goal.returns-clause-of_u128
returns-clause-of_u128 g c = λ x. read_as_written (unsigned 128) _ pos (ReadsUnsigned (unsigned 128) _) unsigned_one (unsigned_seen (unsigned 128) _)

pub returns-clause-of_usize : goal.returns-clause-of_usize
returns-clause-of_usize g c = λ x. read_as_written (unsigned 64) _ pos (ReadsUnsigned (unsigned 64) _) unsigned_one (unsigned_seen (unsigned 64) _)

pub returns-clause-of_i8 : goal.returns-clause-of_i8
returns-clause-of_i8 g c = λ x. read_as_written (signed 8) _ (λ v. v) (ReadsNumber (signed 8) _) signed_one (signed_seen (signed 8) _)

pub returns-clause-of_i16 : goal.returns-clause-of_i16
returns-clause-of_i16 g c = λ x. read_as_written (signed 16) _ (λ v. v) (ReadsNumber (signed 16) _) signed_one (signed_seen (signed 16) _)

pub returns-clause-of_i32 : goal.returns-clause-of_i32
returns-clause-of_i32 g c = λ x. read_as_written (signed 32) _ (λ v. v) (ReadsNumber (signed 32) _) signed_one (signed_seen (signed 32) _)

pub returns-clause-of_i64 : goal.returns-clause-of_i64
returns-clause-of_i64 g c = λ x. read_as_written (signed 64) _ (λ v. v) (ReadsNumber (signed 64) _) signed_one (signed_seen (signed 64) _)

pub returns-clause-of_i128 : goal.returns-clause-of_i128
returns-clause-of_i128 g c = λ x. read_as_written (signed 128) _ (λ v. v) (ReadsNumber (signed 128) _) signed_one (signed_seen (signed 128) _)

pub returns-clause-of_isize : goal.returns-clause-of_isize
returns-clause-of_isize g c = λ x. read_as_written (signed 64) _ (λ v. v) (ReadsNumber (signed 64) _) signed_one (signed_seen (signed 64) _)
