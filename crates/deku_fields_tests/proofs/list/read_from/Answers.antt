use Rattle.std.proofs.Common.{ap, ◌∙◌, arith}
use Rattle.deku_fields.proofs.Sound.{sound_memory}
use Rattle.deku.proofs.Containers.{starts_fresh, whole_source, new_source}
use Rattle.deku_fields.proofs.ReadBack.{filled}
use Rattle.deku_fields_tests.proofs.list.read_from.Goals as goal

pub returns : goal.returns
returns c = λ items after begins room.
    let bytes = c.args.bytes.now in
    let begin = starts_fresh _ bytes _ (ap whole_source c.new-reader.ensures.source ∙ new_source c.new.result _ c.new.ensures.inner c.new.ensures.position) c.new-reader.ensures.state in
    filled _ _ _ (c.read_list_into.ensures.values sound_memory items bytes after 0 begins begin (omega arith)).0
