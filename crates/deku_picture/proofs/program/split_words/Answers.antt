use Rattle.std.proofs.Common.{refl}
use Rattle.deku_picture.proofs.program.split_words.Goals as goal

pub returns-in-Some-first_unnamed-clause-stops : goal.returns-in-Some-first_unnamed-clause-stops
returns-in-Some-first_unnamed-clause-stops c = (refl, (_, c.in-Some.ensures.1, c.in-Some-first_unnamed.ensures))
