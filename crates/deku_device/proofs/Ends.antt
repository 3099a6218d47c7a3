-- The last bytes of eight, as a word that is shifted.
use Rattle.std.proofs.Common.{rules, ℕ, suc, zero, ◌≡◌, ◌+◌, ◌-◌, ◌*◌, ◌/◌, ◌^◌, ◌<◌, ◌≤◌, List, [], ◌∷◌, ◌++◌, length, get_or, take, drop, replicate, arith, ap, ◌∙◌}
use Rattle.std.proofs.lemmas.List.{places, same_lists, length-append, length-drop, length-replicate, drop-drop}
use Rattle.std.proofs.lemmas.Nat.{le_bytes_8}
use Rattle.std.specs.Int.{w64, from_le_bytes, to_le_bytes}

shifted : (xs : List ℕ) (k : ℕ) → length xs ≡ 8 → k < 8 → ((i : ℕ) → get_or xs i 0 < 256)
    → from_le_bytes w64 xs / 2 ^ (56 - 8 * k) / 2 ^ 8 ≡ from_le_bytes w64 (drop (8 - k) xs ++ replicate (8 - k) 0)
shifted (a ∷ b ∷ c ∷ d ∷ e ∷ f ∷ g ∷ h ∷ []) zero l few small = omega (arith, small 0, small 1, small 2, small 3, small 4, small 5, small 6, small 7)
shifted (a ∷ b ∷ c ∷ d ∷ e ∷ f ∷ g ∷ h ∷ []) (suc zero) l few small = omega (arith, small 0, small 1, small 2, small 3, small 4, small 5, small 6, small 7)
shifted (a ∷ b ∷ c ∷ d ∷ e ∷ f ∷ g ∷ h ∷ []) (suc (suc zero)) l few small = omega (arith, small 0, small 1, small 2, small 3, small 4, small 5, small 6, small 7)
shifted (a ∷ b ∷ c ∷ d ∷ e ∷ f ∷ g ∷ h ∷ []) (suc (suc (suc zero))) l few small = omega (arith, small 0, small 1, small 2, small 3, small 4, small 5, small 6, small 7)
shifted (a ∷ b ∷ c ∷ d ∷ e ∷ f ∷ g ∷ h ∷ []) (suc (suc (suc (suc zero)))) l few small = omega (arith, small 0, small 1, small 2, small 3, small 4, small 5, small 6, small 7)
shifted (a ∷ b ∷ c ∷ d ∷ e ∷ f ∷ g ∷ h ∷ []) (suc (suc (suc (suc (suc zero))))) l few small = omega (arith, small 0, small 1, small 2, small 3, small 4, small 5, small 6, small 7)
shifted (a ∷ b ∷ c ∷ d ∷ e ∷ f ∷ g ∷ h ∷ []) (suc (suc (suc (suc (suc (suc zero)))))) l few small = omega (arith, small 0, small 1, small 2, small 3, small 4, small 5, small 6, small 7)
shifted (a ∷ b ∷ c ∷ d ∷ e ∷ f ∷ g ∷ h ∷ []) (suc (suc (suc (suc (suc (suc (suc zero))))))) l few small = omega (arith, small 0, small 1, small 2, small 3, small 4, small 5, small 6, small 7)
shifted _ k l few small = absurd (omega arith)

-- where each is below 256, so is each of the last ones and of the zeros after them
small_end : (xs : List ℕ) (k i : ℕ) → length xs ≡ 8 → k < 8 → ((i : ℕ) → get_or xs i 0 < 256) → get_or (drop (8 - k) xs ++ replicate (8 - k) 0) i 0 < 256
small_end xs k i l few small = grind (arith, places, small (8 - k + i))

-- the last k of eight bytes, and zeros after them
pub ended : (xs : List ℕ) (k : ℕ) → length xs ≡ 8 → k < 8 → ((i : ℕ) → get_or xs i 0 < 256)
    → to_le_bytes w64 (from_le_bytes w64 xs / 2 ^ (56 - 8 * k) / 2 ^ 8) ≡ drop (8 - k) xs ++ replicate (8 - k) 0
ended xs k l few small =
    le_bytes_8 (drop (8 - k) xs ++ replicate (8 - k) 0) (from_le_bytes w64 xs / 2 ^ (56 - 8 * k) / 2 ^ 8)
    (simp (length-append, length-drop, length-replicate) (omega (arith, l))) (λ i. small_end xs k i l few small) (shifted xs k l few small)

-- the items from a place near the end on, with zeros after them
end_filled : (xs : List ℕ) (at count m : ℕ) → count ≡ length xs - at → count ≤ m → drop (length xs - count) xs ++ replicate (m - count) 0 ≡ take m (drop at xs ++ replicate m 0)
end_filled xs at count m e few = same_lists _ _ (search (rules, places)) (λ i d h. grind (arith, places))

-- the last of the last eight bytes of a list, and zeros after them
pub end_eight : (all end : List ℕ) (at k : ℕ) → end ≡ drop (length all - 8) all → 8 ≤ length all → k ≡ length all - at → k < 8
    → drop (8 - k) end ++ replicate (8 - k) 0 ≡ take 8 (drop at all ++ replicate 8 0)
end_eight all end at k e enough count few =
    let place : length all - 8 + (8 - k) ≡ length all - k = omega arith in
    let rest : drop (8 - k) end ≡ drop (length all - k) all = ap (drop (8 - k)) e ∙ drop-drop (8 - k) (length all - 8) all ∙ ap (λ i. drop i all) place in
    ap (λ ys. ys ++ replicate (8 - k) 0) rest ∙ end_filled all at k 8 count (omega arith)
