use Rattle.std.proofs.Common.{pos}
use Rattle.deku_num.proofs.Carrying.{word_written}
use Rattle.deku_num.proofs.calls.write_unsigned.Goals as goal

pub returns-clause-writes : goal.returns-clause-writes
returns-clause-writes g c =
    word_written c.args.number_type c.args.layout (pos c.args.value) _ _ c.in_ok-width.ensures.ok.1 c.in_ok-width.ensures.ok.0 c.in-Some.ensures.word c.write_word.ensures.writes
