use Rattle.std.proofs.Common.{refl}
use Rattle.deku.specs.Wholes.{Behind}
use Rattle.deku.proofs.Containers.{unbroken, new_source}
use Rattle.deku_container_tests.proofs.InTurn.{second_behind}
use Rattle.deku_container_tests.proofs.in_turn.in_turn.Goals as goal

pub returns : goal.returns
returns g c = λ may.
    let first = c.in_ok-first.ensures in
    let second = c.in_ok-second.ensures in
    second_behind (Behind 0 (g.A.DekuReader.meaning tt)) (Behind 0 (g.B.DekuReader.meaning tt)) c.args.bytes.now _ _ first.reads.stands _ _ _ _
    (new_source c.new-input.result _ c.new-input.ensures.inner c.new-input.ensures.position) (first.behind may) first.reads.counts (unbroken refl refl first.reads.reads) (unbroken refl refl second.reads.reads)
