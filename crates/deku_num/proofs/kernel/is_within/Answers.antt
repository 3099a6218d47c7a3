use Rattle.std.proofs.Common.{◌≡◌, ◌-◌, ◌∙◌, ap, refl, rules}
use Rattle.deku_bits.specs.Bits.{groups}
use Rattle.deku_num.proofs.Fitted.{within_split}
use Rattle.deku_num.proofs.kernel.is_within.Goals as goal

pub returns-then-is_below : goal.returns-then-is_below
returns-then-is_below c =
    let k : c.div_ceil-groups.result ≡ groups c.args.n = search rules in
    let j : c.saturating_sub.result ≡ c.div_ceil-groups.result - 1 = search rules in
    let w = within_split c.args.n c.args.value c.div_ceil-groups.result c.saturating_sub.result k (j ∙ ap (λ x. x - 1) k) in
    rw (c.in-Big-Lsb0.is-0, c.in-Big-Lsb0.is-1) (
      λ h. w.0 (c.is_below.ensures.0 (search rules), c.is_below-then-is_below.ensures.0 h),
      λ h. c.is_below-then-is_below.ensures.1 (w.1 h).1,
    )

pub returns-else-is_below : goal.returns-else-is_below
returns-else-is_below c =
    let k : c.div_ceil-groups.result ≡ groups c.args.n = search rules in
    let w = within_split c.args.n c.args.value c.div_ceil-groups.result (groups c.args.n - 1) k refl in
    rw (c.in-Big-Lsb0.is-0, c.in-Big-Lsb0.is-1) (λ h. absurd (search rules), λ h. c.is_below.ensures.1 (w.1 h).0)

pub div_ceil-groups-requires : goal.div_ceil-groups-requires
div_ceil-groups-requires c = search rules

pub overflow_mul-groups : goal.overflow_mul-groups
overflow_mul-groups c = search rules

pub is_below-requires : goal.is_below-requires
is_below-requires c = search rules

pub overflow_mul-saturating_sub : goal.overflow_mul-saturating_sub
overflow_mul-saturating_sub c = search rules

pub overflow_sub-n : goal.overflow_sub-n
overflow_sub-n c = search rules

pub is_below-requires-then-is_below : goal.is_below-requires-then-is_below
is_below-requires-then-is_below c = search rules

pub is_below-requires-in_default : goal.is_below-requires-in_default
is_below-requires-in_default c = search rules

pub returns-in_default : goal.returns-in_default
returns-in_default c = search rules
