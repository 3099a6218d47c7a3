use Rattle.std.proofs.Common.{◌≡◌, ◌<◌, ◌^◌, length, All, ap, sym, subst, ◌∙◌}
use Rattle.deku_pieces.proofs.HighFirst.{Has}
use Rattle.deku_frame.specs.declared.frame.Frame.TheVariants.{Data}
use Rattle.deku_frame.specs.Frames.{OfFrame}
use Rattle.deku_frame.proofs.Having.{data_has}
use Rattle.deku_frame.proofs.frame.Frame.data.Goals as goal

pub returns-clause-lies : goal.returns-clause-lies
returns-clause-lies c =
    let v = c.args.payload in
    let seen = c.as_slice.ensures.value in
    let is : c.in_ok-length.length ≡ length v.items = c.in_ok-length.ensures.ok.1 ∙ ap length seen in
    let small : length v.items < 2 ^ 8 = subst (λ xs. length xs < 2 ^ 8) seen c.in_ok-length.ensures.ok.0 in
    let all : All (λ b. b < 256) v.items = subst (All (λ b. b < 256)) seen c.length_of.ensures.octets in
    subst (λ n. Has (OfFrame (Data n v))) (sym is) (data_has v small all)
