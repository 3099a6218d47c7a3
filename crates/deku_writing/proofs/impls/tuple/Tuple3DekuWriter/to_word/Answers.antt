use Rattle.deku_writing.proofs.WordsJoined.{maybe_joined}
use Rattle.deku_writing.proofs.impls.tuple.Tuple3DekuWriter.to_word.Goals as goal

pub returns : goal.returns
returns g c = maybe_joined c.args.order _ _ _ c.in_ok-item.ensures c.in_ok-rest.ensures c.followed_by.ensures
