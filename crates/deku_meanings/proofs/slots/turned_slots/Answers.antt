use Rattle.std.proofs.Common.{rules}
use Rattle.deku_meanings.proofs.Turning.{callable_at_each, turned_all}
use Rattle.deku_meanings.proofs.slots.turned_slots.Goals as goal

pub from_fn-requires : goal.from_fn-requires
from_fn-requires g c = (search rules, callable_at_each (λ p. p.0.now) _ _ (λ p x h. search rules) (λ p x r q s. (search rules, search rules)) _ (search rules) c.requires)

pub returns : goal.returns
returns g c = turned_all (λ p. p.0.now) _ _ (λ p x h. search rules) (λ p x r q s. (search rules, search rules)) _ _ (search rules) c.from_fn.ensures.items
