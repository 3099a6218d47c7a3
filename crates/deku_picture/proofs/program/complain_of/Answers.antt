use Rattle.std.proofs.Common.{◌≡◌, ◌++◌, ◌∷◌, [], List, ℕ, codes, refl, ap, sym, subst, inl, inr, append_assoc, IfSome}
use Rattle.std.specs.Fmt.{debug_str}
use Rattle.deku_program.specs.Texts.{line}
use Rattle.deku_program.specs.Outputs.{IsBegun}
use Rattle.deku_program.proofs.Giving.{begun_either}
use Rattle.deku_picture.specs.Drawn.{usage}
use Rattle.deku_picture.proofs.program.complain_of.Goals as goal

pub returns-in-Ok : goal.returns-in-Ok
returns-in-Ok g c =
    let s : List ℕ = c.as_str.result.now in
    let text : List ℕ = line (usage ++ (codes ", and " ++ (s ++ codes " is not a field"))) in
    let same : text ≡ codes "usage: layout [--svg|--bytes HEX] [NAME:]SPEC.., and " ++ (s ++ codes " is not a field\n") =
    ap (λ t. codes "usage: layout [--svg|--bytes HEX] [NAME:]SPEC.., and " ++ t) (append_assoc s (codes " is not a field") (10 ∷ [])) in
    let shown : IfSome (debug_str c.args.word.now) (λ escaped. s ≡ escaped) = rw c.as_str.ensures.value c.in-Ok.ensures.ok in
    (text, inr (s, shown, refl), subst (IsBegun (g.E.Write.contents c.args.errors.now) (g.E.Write.contents c.give_parts.new.output)) (sym same) c.give_parts.ensures.begun)

pub returns-in-Err : goal.returns-in-Err
returns-in-Err g c = (_, inl refl, begun_either c.give_text.result _ _ _ c.give_text.ensures.given c.give_text.ensures.cut)
