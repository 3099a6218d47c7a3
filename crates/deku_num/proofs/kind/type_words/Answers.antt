use Rattle.std.proofs.Common.{refl}
use Rattle.deku_num.proofs.kind.type_words.Goals as goal

pub returns-clause-is_u8 : goal.returns-clause-is_u8
returns-clause-is_u8 c = refl

pub returns-clause-is_usize : goal.returns-clause-is_usize
returns-clause-is_usize c = refl

pub returns-clause-is_i8 : goal.returns-clause-is_i8
returns-clause-is_i8 c = refl
