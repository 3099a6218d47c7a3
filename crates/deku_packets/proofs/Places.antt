-- Places of what was read.
use Rattle.std.proofs.Common.{◌≡◌, ℕ, ◌+◌, ◌-◌, ◌<◌, ◌≤◌, ◌^◌, ◌++◌, Bool, true, false, Option, List, [], ◌∷◌, length, drop, All, sym, subst, ap, arith}
use Rattle.std.specs.Prelude.{nat_le, ◌&&◌, slice_range, min, if◌then◌else◌}
use Rattle.std.proofs.Math.Logic.{∥∥₁_map}
use Rattle.std.proofs.lemmas.List.{length-take}
use Rattle.std.proofs.lemmas.List.Elements.{All-push}
use Rattle.deku_bits.specs.Streams.{Stream}
use Rattle.deku_bits.specs.Outcomes.{Meaning}
use Rattle.deku_packets.specs.Back.{between}
use Rattle.deku_packets.specs.Reading.{IsFirst, IsAt}

-- one more layer, if there was memory for it
pub pushed : {X : Type 0} (P : X → Type 0) (xs ys : List X) (x : X) (b : Bool) → ys ≡ (if b then xs ++ x ∷ [] else xs) → P x → ∥ All P xs ∥₁ → ∥ All P ys ∥₁
pushed P xs ys x true e p h = ∥∥₁_map h (λ all. subst (All P) (sym e) (All-push P xs x all p))
pushed P xs ys x false e p h = ∥∥₁_map h (λ all. subst (All P) (sym e) all)

-- the bytes between two indices are no more than these are apart
between_short : (bytes : List ℕ) (start limit : ℕ) → length (between bytes start limit) ≤ limit - start
between_short bytes start limit = go (nat_le start limit && nat_le limit (length bytes))
  where
    go : (b : Bool) → length (if b then slice_range bytes start limit else []) ≤ limit - start
    go true =
        let cut : length (slice_range bytes start limit) ≡ min (limit - start) (length (drop start bytes)) = length-take (limit - start) (drop start bytes) in
        omega (arith, cut)
    go false = omega (arith)

-- what is first in the bytes up to a limit is at its place
pub at_place : {V : Type 0} (m : Meaning (Option Stream) V) (v : V) (bytes : List ℕ) (start limit count end : ℕ) (given : List ℕ) → given ≡ between bytes start limit → IsFirst m v given count
    → end ≡ min (start + count) 18446744073709551615 → limit < 18446744073709551616 → start < 18446744073709551616 → IsAt (IsFirst m v) bytes start end
at_place m v bytes start limit count end given is f e small low =
    let short = between_short bytes start limit in
    let all : length given ≡ length (between bytes start limit) = ap length is in
    let n : end - start ≡ count = omega (arith, e, f.counts, short, all, small, low) in
    record { limit = limit; ordered = omega (arith, e, low); there = subst (λ k. IsFirst m v (between bytes start limit) k) (sym n) (subst (λ b. IsFirst m v b count) is f) }
