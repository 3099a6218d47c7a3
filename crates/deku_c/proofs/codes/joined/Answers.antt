use Rattle.std.proofs.Common.{take, All, subst, sym, arith}
use Rattle.std.proofs.lemmas.List.{take_all, take_more}
use Rattle.std.proofs.lemmas.List.Elements.{All-nil, All-push}
use Rattle.deku_c.specs.Codes.{IsNamed}
use Rattle.deku_c.proofs.Naming.{small_l, small_r}
use Rattle.deku_c.proofs.codes.joined.Goals as goal

pub loop-code-init : goal.loop-code-init
loop-code-init c = λ small. All-nil IsNamed

pub loop-code-preserved : goal.loop-code-preserved
loop-code-preserved c = λ small.
    let codes = c.args.codes.now in
    let i = c.loop-code.code-index in
    let before = c.loop-code.invariant (small_l _ _ small) in
    let last = c.word-joined.ensures.named (small_r c.loop-code.joined _ small) in
    subst (λ x. All IsNamed x) (sym (take_more codes i _ (omega arith))) (All-push IsNamed (take i codes) _ before last)

pub returns : goal.returns
returns c = λ small. subst (λ x. All IsNamed x) (take_all c.loop-code.code-index c.args.codes.now (omega arith)) (c.loop-code.invariant small)
