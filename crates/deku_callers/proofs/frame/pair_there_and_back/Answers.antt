use Rattle.std.proofs.Common.{[], Ok, sym, subst, ◌∙◌, append-nil}
use Rattle.deku_bits.specs.Pieces.{laid_out}
use Rattle.deku_fields.specs.Frames.{SameFrame}
use Rattle.deku_callers.proofs.frame.pair_there_and_back.Goals as goal

pub returns : goal.returns
returns c =
    let lies = c.in_ok-frame.ensures.lies in
    let laid = c.write_law.ensures c.in_ok-frame.frame lies.0 (Ok c.in_ok-bytes.bytes) lies.1 c.in_ok-bytes.ensures in
    let back = c.read_law.ensures c.in_ok-frame.frame lies.0 [] c.as_slice.result.now (Ok (c.in_ok-_rest._rest, c.in_ok-_rest.read)) lies.1
    (c.as_slice.ensures.value ∙ laid ∙ sym (append-nil (laid_out lies.0))) c.in_ok-_rest.ensures in
    subst (λ f. SameFrame f c.in_ok-_rest.read) c.in_ok-frame.ensures.ok.2 back.0
