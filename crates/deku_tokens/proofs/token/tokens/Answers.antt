use Rattle.std.proofs.Common.{◌≡◌, arith, ap, is_ok, ◌∙◌}
use Rattle.std.proofs.ResultArms.{chosen}
use Rattle.deku_tokens.proofs.SpanLemmas.{kept_lie, pushed_lies}
use Rattle.deku_tokens.proofs.token.tokens.Goals as goal
use Rattle.deku_tokens.proofs.token.tokens.Goals.{then-ne+in_ok-push, else-ne}

pub loop-at-preserved : goal.loop-at-preserved
loop-at-preserved c = record {
  ordered = omega (arith, c.first_token-kind.ensures.within);
  spans = elim c.if-ne.branch [
    | then-ne+in_ok-push w ↦
        let pushed = chosen _ _ _ _ w.push.ensures.items (ap is_ok w.in_ok-push.was) in
        let same : c.if-ne.tokens.items ≡ w.push.new.self.items = cc w.tokens-is in
        pushed_lies _ _ _ _ _ (same ∙ pushed) c.loop-at.invariant.spans (omega arith) (omega arith)
    | else-ne w ↦
        let same : c.if-ne.tokens.items ≡ c.loop-at.tokens.items = cc w.tokens-is in
        kept_lie _ _ _ _ _ same c.loop-at.invariant.spans (omega arith)
  ];
}
