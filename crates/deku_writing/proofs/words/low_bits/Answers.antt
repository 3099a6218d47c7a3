use Rattle.std.proofs.Common.{◌≡◌, ℕ, ◌+◌, ◌-◌, ◌*◌, ◌/◌, ◌%◌, ◌^◌, ◌≤◌, ap, ap₂, ◌∙◌, arith}
use Rattle.std.proofs.Math.Arith.{mod-mul}
use Rattle.std.proofs.Math.Nat.{mul-mod_left}
use Rattle.std.proofs.lemmas.Nat.{shl-shr, pow-add, pow_pos}
use Rattle.deku_writing.proofs.words.low_bits.Goals as goal

-- what is shifted out, up and down again, is gone
low_kept : (k n : ℕ) → n ≤ 64 → k * 2 ^ (64 - n) % 2 ^ 64 / 2 ^ (64 - n) ≡ k % 2 ^ n
low_kept k n few =
    let y : ℕ = 64 - n in
    let sum : 64 ≡ n + y = omega (arith, few) in
    let wide : 2 ^ 64 ≡ 2 ^ n * 2 ^ y = ap (λ j. 2 ^ j) sum ∙ pow-add 2 n y in
    let is : k * 2 ^ y % 2 ^ 64 ≡ k % 2 ^ n * 2 ^ y =
    ap (λ m. k * 2 ^ y % m) wide ∙ mod-mul (k * 2 ^ y) (pow_pos n) (pow_pos y) ∙ ap₂ (λ a b. a % 2 ^ n * 2 ^ y + b) (shl-shr k y) (mul-mod_left k (2 ^ y)) ∙ omega arith in
    ap (λ x. x / 2 ^ y) is ∙ shl-shr (k % 2 ^ n) y

pub returns : goal.returns
returns c = low_kept c.args.number c.args.n c.requires.few
