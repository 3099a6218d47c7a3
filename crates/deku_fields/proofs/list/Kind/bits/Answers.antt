use Rattle.std.proofs.Common.{rules}
use Rattle.deku_fields.proofs.list.Kind.bits.Goals as goal

pub returns-in-U8 : goal.returns-in-U8
returns-in-U8 c = search rules

pub returns-in-U16 : goal.returns-in-U16
returns-in-U16 c = search rules

pub returns-in-U32 : goal.returns-in-U32
returns-in-U32 c = search rules

pub returns-in-U64 : goal.returns-in-U64
returns-in-U64 c = search rules

pub returns-in-U128 : goal.returns-in-U128
returns-in-U128 c = search rules
