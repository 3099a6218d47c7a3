-- Parts of lists.
use Rattle.std.proofs.Common.{rules, replicate, Some, ◌≡◌, ℕ, ◌+◌, ◌-◌, ◌<◌, ◌≤◌, ◌^◌, List, ◌++◌, length, take, drop, sym, ap, ◌∙◌, arith, min}
use Rattle.std.proofs.lemmas.List.{places, same_lists, length-append, drop-drop, take-append-drop, drop_all, length-drop, length-take, take-append-le, take_rest}
use Rattle.std.proofs.lemmas.Bool.{cases_lt}
use Rattle.std.proofs.Common.{⊎_elim}
use Rattle.deku_device.specs.Devices.{BeginsThenZeros, TryTakeLaw}

-- a part of a list, and what is after it
pub cut_part : {X : Type 0} (xs : List X) (at n : ℕ) → drop at xs ≡ take n (drop at xs) ++ drop (at + n) xs
cut_part xs at n = sym (take-append-drop n (drop at xs)) ∙ ap (λ ys. take n (drop at xs) ++ ys) (drop-drop n at xs)

-- a place past the end
drop_min_le : {X : Type 0} (xs : List X) (a m : ℕ) → length xs ≤ m → drop (min a m) xs ≡ drop a xs
drop_min_le xs a m h = ⊎_elim
    (λ (lt : a < m). let e : min a m ≡ a = omega arith in ap (λ k. drop k xs) e)
    (λ (le : m ≤ a). let p : length xs ≤ min a m = omega arith in let q : length xs ≤ a = omega arith in drop_all (min a m) xs p ∙ sym (drop_all a xs q))
    (cases_lt a m)

-- a place that is at the end of numbers is past the end of a list
pub drop_saturated : {X : Type 0} (xs : List X) (at n : ℕ) → length xs < 2 ^ 64 → drop (min (at + n) (2 ^ 64 - 1)) xs ≡ drop n (drop at xs)
drop_saturated xs at n fits = drop_min_le xs (at + n) (2 ^ 64 - 1) (omega arith) ∙ sym (drop-drop n at xs)

front_of_filled : (xs zs eight : List ℕ) (n : ℕ) → eight ≡ take 8 (xs ++ zs) → n ≤ length xs → n ≤ 8 → xs ≡ take n eight ++ drop n xs
front_of_filled xs zs eight n e fits few =
    let front : take n eight ≡ take n xs = ap (take n) e ∙ same_lists _ _ (search (rules, places)) (λ k d h. grind (arith, places)) in
    sym (ap (λ ys. ys ++ drop n xs) front ∙ take-append-drop n xs)

rest_of_filled : (xs : List ℕ) (n m : ℕ) → n ≤ length xs → n ≤ m → drop n (take m (xs ++ replicate m 0)) ≡ take (m - n) (drop n xs ++ replicate (m - n) 0)
rest_of_filled xs n m fits few = same_lists _ _ (search (rules, places)) (λ k d h. grind (arith, places))

-- eight bytes from a place on, with zeros after the last: the first n of them, and the rest of the list
pub eight_front : (all eight : List ℕ) (at n : ℕ) → eight ≡ take 8 (drop at all ++ replicate 8 0) → n ≤ length (drop at all) → n ≤ 8 → drop at all ≡ take n eight ++ drop (at + n) all
eight_front all eight at n e fits few =
    front_of_filled (drop at all) (replicate 8 0) eight n e fits few ∙ ap (λ ys. take n eight ++ ys) (drop-drop n at all)

-- and the others of the eight
pub eight_rest : (all eight : List ℕ) (at n : ℕ) → eight ≡ take 8 (drop at all ++ replicate 8 0) → n ≤ length (drop at all) → n ≤ 8 → BeginsThenZeros (drop n eight) (Some (drop (at + n) all))
eight_rest all eight at n e fits few =
    let count : length eight ≡ 8 = ap length e ∙ simp (length-take, length-append) (omega arith) in
    let left : length (drop n eight) ≡ 8 - n = length-drop n eight ∙ ap (λ k. k - n) count in
    rw (← drop-drop n at all, left) (ap (drop n) e ∙ rest_of_filled (drop at all) n 8 fits few)

filled_to : (xs : List ℕ) (k m : ℕ) → k ≡ min (length xs) m → take k xs ++ drop k (replicate m 0) ≡ take m (xs ++ replicate m 0)
filled_to xs k m e = same_lists _ _ (search (rules, places)) (λ i d h. grind (arith, places))

-- as many as are there, and zeros after them
pub eight_filled : (all part : List ℕ) (at s k : ℕ) → s ≡ min (length all) at → k ≡ min (length (take (length all - s) (drop s all))) 8
    → part ≡ take k (take (length all - s) (drop s all)) → part ++ drop k (replicate 8 0) ≡ take 8 (drop at all ++ replicate 8 0)
eight_filled all part at s k e n p =
    let place : s ≡ min at (length all) = omega arith in
    let last : take (length all - s) (drop s all) ≡ drop at all = take_rest all s ∙ ap (λ i. drop i all) place ∙ drop_min_le all at (length all) (omega arith) in
    let count : k ≡ min (length (drop at all)) 8 = n ∙ ap (λ ys. min (length ys) 8) last in
    ap (λ ys. ys ++ drop k (replicate 8 0)) (p ∙ ap (take k) last) ∙ filled_to (drop at all) k 8 count

-- where eight bytes or more are left, there are no zeros among the first eight
pub eight_whole : (all eight : List ℕ) (at : ℕ) → at + 8 ≤ length all → eight ≡ take 8 (drop at all) → eight ≡ take 8 (drop at all ++ replicate 8 0)
eight_whole all eight at enough e = e ∙ sym (take-append-le 8 (drop at all) (replicate 8 0) (simp length-drop (omega arith)))

-- where so many bytes are to come, those at hand are these
pub try_take_law : TryTakeLaw
try_take_law bytes remaining enough e = sym (e ∙ take-append-le (length bytes) remaining (replicate (length bytes) 0) enough)
