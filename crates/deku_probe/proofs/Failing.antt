-- Of sources and sinks that fail once.
use Rattle.std.proofs.Common.{◌≡◌, ℕ, ◌+◌, ◌-◌, ◌≤◌, ◌<◌, List, length, drop, Option, Some, None, refl, ap, ◌∙◌, arith, suc, zero}
use Rattle.std.proofs.lemmas.List.{length-drop, length-append}
use Rattle.deku_device.specs.Devices.{FewerThan}
use Rattle.std.specs.Prelude.{IfSome, option_map}
use Rattle.std.specs.Io.KnownBytes.{Consumes}
use Rattle.deku_probe.specs.Probes.{failures_at}

-- the call that fails is the one at which one is left
pub only_at_one : (m n : ℕ) → n ≡ m - 1 → failures_at m < failures_at n → m ≡ 1
only_at_one zero n e l = absurd (let z : n ≡ 0 = omega arith in let h : 1 < failures_at 0 = rw z at l in omega (arith, h))
only_at_one (suc zero) n e l = refl
only_at_one (suc (suc k)) n e l = absurd (let z : n ≡ suc k = omega arith in let h : 0 < failures_at (suc k) = rw z at l in omega (arith, h))

-- the place after the last byte, where i bytes were read and none is left
pub at_end : (t : Option (List ℕ)) (p i q : ℕ) (xs : List ℕ) → q ≡ p + i → length xs ≡ i → Consumes (option_map (drop p) t) (option_map (drop (p + i)) t) xs
    → FewerThan 1 (option_map (drop (p + i)) t) → IfSome t (λ all. q ≡ p + (length all - p))
at_end None p i q xs k n c f = tt
at_end (Some all) p i q xs k n c f =
    let whole : length (drop p all) ≡ length xs + length (drop (p + i) all) = ap length c ∙ length-append xs (drop (p + i) all) in
    omega (arith, k, n, whole, f, length-drop p all)

-- how many bytes fitted, where i were given and none is left to fit
pub fitted : (a x : List ℕ) (p i n : ℕ) → n ≡ i → n ≤ length (drop p a) → x ≡ drop n (drop p a) → length x < 1 → length a - p ≡ i
fitted a x p i n e le same short =
    let left : length x ≡ length (drop p a) - n = ap length same ∙ length-drop n (drop p a) in
    omega (arith, e, le, left, short, length-drop p a)
