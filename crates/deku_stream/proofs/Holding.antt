-- Bytes that hold a list of bits, and zeros after it.
use Rattle.std.proofs.Common.{ℕ, zero, suc, ◌+◌, ◌*◌, ◌-◌, ◌^◌, ◌<◌, ◌≤◌, ◌≡◌, Bool, false, List, [], ◌∷◌, ◌++◌, length, drop, take, replicate, refl, ap, sym, ◌∙◌, subst, arith, append_assoc, length-append, length-drop}
use Rattle.std.proofs.lemmas.List.{length-take-le, take_all, drop_all, length-replicate, drop-drop, drop_at, replicate-append-replicate}
use Rattle.deku_stream.specs.Bits.{bits_of, byte_bits, bits_in}
use Rattle.deku_device.specs.Overlays.{overlaid}
use Rattle.deku_stream.proofs.BitPlaces.{length-bits_in}
use Rattle.deku_stream.proofs.Overlays.{take-overlaid, drop-overlaid, take_front-overlaid}

pub record Holds (bs : List ℕ) (n N : ℕ) (s : List Bool) : Type 0 where
  pub all : length (bits_in bs) ≡ 8 * N
  pub within : n ≤ 8 * N
  pub fits : 8 * N < 2 ^ 64
  pub is : take n (bits_in bs) ≡ s
  pub zeros : drop n (bits_in bs) ≡ replicate (8 * N - n) false
  pub len : length s ≡ n

abbrev pub Closed : List ℕ → ℕ → ℕ → Type 0
Closed bs n N = (n ≤ 8 * N) × (8 * N < 2 ^ 64) × (drop n (bits_in bs) ≡ replicate (8 * N - n) false)

pub opened : (bs : List ℕ) (n N : ℕ) (s : List Bool) → length bs ≡ N → Closed bs n N → take n (bits_in bs) ≡ s → Holds bs n N s
opened bs n N s l c e =
    let all : length (bits_in bs) ≡ 8 * N = length-bits_in bs ∙ ap (λ x. 8 * x) l in
    record { all = all; within = c.0; fits = c.1; is = e; zeros = c.2; len = ap length (sym e) ∙ length-take-le n (bits_in bs) (omega (arith, c.0)) }

pub closed : {bs : List ℕ} {n N : ℕ} {s : List Bool} → Holds bs n N s → Closed bs n N
closed h = (h.within, h.fits, h.zeros)

-- bits are laid over those from a place on, past the end of the list
pub laid : (bs cs : List ℕ) (n N : ℕ) (s : List Bool) (at : ℕ) (bits : List Bool) → Holds bs n N s → bits_in cs ≡ overlaid (bits_in bs) at bits
    → at ≤ n → n ≤ at + length bits → at + length bits ≤ 8 * N → Holds cs (at + length bits) N (take at s ++ bits)
laid bs cs n N s at bits h e low high room =
    let F : List Bool = bits_in bs in
    let m : ℕ = at + length bits in
    let all : at + length bits ≤ length F = omega (arith, h.all) in
    let back : take at s ≡ take at F = ap (take at) (sym (h.is)) ∙ take_front at n F low in
    let behind : drop (m - n) (drop n F) ≡ drop m F = drop-drop (m - n) n F ∙ ap (λ x. drop x F) (let k : n + (m - n) ≡ m = omega arith in k) in
    let none : length (take at s ++ bits) ≡ m = length-append (take at s) bits ∙ omega (arith, length-take-le at s (omega (arith, h.len))) in
    record {
      all = ap length e ∙ length_laid F at bits all ∙ h.all;
      within = room;
      fits = h.fits;
      is = ap (take m) e ∙ take-overlaid F at bits all ∙ ap (λ x. x ++ bits) (sym back);
      zeros = ap (drop m) e ∙ drop-overlaid F at bits all ∙ sym behind ∙ ap (drop (m - n)) (h.zeros) ∙ drop_zeros (m - n) (8 * N - n)
          ∙ ap (λ x. replicate x false) (let k : 8 * N - n - (m - n) ≡ 8 * N - m = omega (arith, h.within) in k);
      len = none;
    }
  where
    take_front : (i j : ℕ) (xs : List Bool) → i ≤ j → take i (take j xs) ≡ take i xs
    take_front zero j xs l = refl
    take_front (suc i) zero xs l = absurd (omega arith)
    take_front (suc i) (suc j) [] l = refl
    take_front (suc i) (suc j) (x ∷ xs) l = ap (λ ys. x ∷ ys) (take_front i j xs (omega arith))

    length_laid : (xs : List Bool) (i : ℕ) (ys : List Bool) → i + length ys ≤ length xs → length (overlaid xs i ys) ≡ length xs
    length_laid xs i ys l =
        length-append (take i xs ++ ys) (drop (i + length ys) xs)
        ∙ omega (arith, length-append (take i xs) ys, length-take-le i xs (omega arith), length-drop (i + length ys) xs)

    drop_zeros : (i j : ℕ) → drop i (replicate j false) ≡ replicate (j - i) false
    drop_zeros zero j = ap (λ x. replicate x false) (let k : j ≡ j - 0 = omega arith in k)
    drop_zeros (suc i) zero = ap (λ x. replicate x false) (let k : 0 ≡ 0 - suc i = omega arith in k)
    drop_zeros (suc i) (suc j) = drop_zeros i j ∙ ap (λ x. replicate x false) (let k : j - i ≡ suc j - suc i = omega arith in k)

-- zeros are laid over the bits from a place on
pub cleared : (bs cs : List ℕ) (n N : ℕ) (s : List Bool) (at : ℕ) → Holds bs n N s → bits_in cs ≡ overlaid (bits_in bs) at (replicate (n - at) false)
    → at ≤ n → Holds cs at N (take at s)
cleared bs cs n N s at h e low =
    let zs : List Bool = replicate (n - at) false in
    let lz : length zs ≡ n - at = length-replicate (n - at) false in
    let end : at + length zs ≡ n = omega arith in
    let k = laid bs cs n N s at zs h e low (omega arith) (omega (arith, h.within)) in
    let front : length (take at s) ≡ at = length-take-le at s (omega (arith, h.len)) in
    record {
      all = k.all;
      within = omega (arith, h.within);
      fits = h.fits;
      is = ap (take at) e ∙ take_front-overlaid (bits_in bs) at zs (omega (arith, h.all, h.within)) ∙ front_is;
      zeros = ap (drop at) e ∙ ap (drop at) (append_assoc (take at (bits_in bs)) zs (drop (at + length zs) (bits_in bs)))
          ∙ drop_at (take at (bits_in bs)) (zs ++ drop (at + length zs) (bits_in bs)) at (length-take-le at (bits_in bs) (omega (arith, h.all, h.within)))
          ∙ ap (λ x. zs ++ drop x (bits_in bs)) end ∙ ap (λ x. zs ++ x) (h.zeros)
          ∙ replicate-append-replicate (n - at) (8 * N - n) false
          ∙ ap (λ x. replicate x false) (let q : n - at + (8 * N - n) ≡ 8 * N - at = omega (arith, h.within) in q);
      len = front;
    }
  where
    take_front : (i j : ℕ) (xs : List Bool) → i ≤ j → take i xs ≡ take i (take j xs)
    take_front zero j xs l = refl
    take_front (suc i) zero xs l = absurd (omega arith)
    take_front (suc i) (suc j) [] l = refl
    take_front (suc i) (suc j) (x ∷ xs) l = ap (λ ys. x ∷ ys) (take_front i j xs (omega arith))

    front_is : take at (bits_in bs) ≡ take at s
    front_is = take_front at n (bits_in bs) low ∙ ap (take at) (h.is)

-- bytes of zeros
pub nothing : (N : ℕ) → 8 * N < 2 ^ 64 → Holds (replicate N 0) 0 N []
unfolding bits_of byte_bits
nothing N f = record {
  all = length-bits_in (replicate N 0) ∙ ap (λ x. 8 * x) (length-replicate N 0);
  within = omega arith;
  fits = f;
  is = refl;
  zeros = zeros N;
  len = refl;
}
  where
    zeros : (n : ℕ) → bits_in (replicate n 0) ≡ replicate (8 * n - 0) false
    zeros zero = refl
    zeros (suc n) =
        let e : 8 * suc n - 0 ≡ suc (suc (suc (suc (suc (suc (suc (suc (8 * n - 0)))))))) = omega arith in
        rw e (ap (λ x. false ∷ false ∷ false ∷ false ∷ false ∷ false ∷ false ∷ false ∷ x) (zeros n))

-- all bits of bytes
pub everything : (bs : List ℕ) (N : ℕ) → length bs ≡ N → 8 * N < 2 ^ 64 → Holds bs (8 * N) N (bits_in bs)
everything bs N l f =
    let all : length (bits_in bs) ≡ 8 * N = length-bits_in bs ∙ ap (λ x. 8 * x) l in
    let none : 8 * N - 8 * N ≡ 0 = omega arith in
    record {
      all = all;
      within = omega arith;
      fits = f;
      is = take_all (8 * N) (bits_in bs) (omega arith);
      zeros = rw none (drop_all (8 * N) (bits_in bs) (omega arith));
      len = all;
    }

-- and the list has this length then
pub laid_to : (bs cs : List ℕ) (n N m : ℕ) (s : List Bool) (at : ℕ) (bits : List Bool) → Holds bs n N s → bits_in cs ≡ overlaid (bits_in bs) at bits
    → m ≡ at + length bits → at ≤ n → n ≤ m → m ≤ 8 * N → Holds cs m N (take at s ++ bits)
laid_to bs cs n N m s at bits h e w low high room =
    subst (λ x. Holds cs x N (take at s ++ bits)) (sym w) (laid bs cs n N s at bits h e low (omega arith) (omega arith))

-- bits laid over zeros
pub filled : (cs : List ℕ) (N m : ℕ) (bits : List Bool) → 8 * N < 2 ^ 64 → bits_in cs ≡ overlaid (bits_in (replicate N 0)) 0 bits → m ≡ length bits → m ≤ 8 * N → Holds cs m N bits
filled cs N m bits f e w room = laid_to (replicate N 0) cs 0 N m [] 0 bits (nothing N f) e (omega arith) (omega arith) (omega arith) room
