-- Values that are cut from one number.
use Rattle.std.proofs.Common.{◌≡◌, ℕ, ◌+◌, ◌-◌, ◌/◌, ◌%◌, ◌^◌, ◌<◌, ◌≤◌, ◌*◌, Bool, true, false, Bor, List, [], ◌++◌, reverse, length, take, drop, Option, Some, None, Result, Ok, Err, refl, sym, ap, ap₂, ◌∙◌, subst, inl, inr, arith, length-append, eq-eqb, ne_eqb, mod-eq_of_lt, mod-lt, ⊎_elim}
use Rattle.std.specs.Prelude.{⊤}
use Rattle.std.proofs.lemmas.Bool.{cases_lt}
use Rattle.std.proofs.lemmas.List.{take_at, drop_at, reverse-append}
use Rattle.std.proofs.lemmas.Nat.{pow_pos, pow_below, shr_below, shr-shr, field_of}
use Rattle.std.proofs.Math.Pow.{mod-mod-pow}
use Rattle.std.specs.Io.Cursor.{cursor_position, cursor_inner}
use Rattle.std.specs.declared.io.Cursor.{Cursor}
use Rattle.deku_bits.specs.declared.ctx.Order.{Order}
use Rattle.deku_bits.specs.declared.ctx.Order.TheVariants.{Msb0, Lsb0}
use Rattle.deku_bits.specs.declared.error.DekuError.{DekuError}
use Rattle.deku_bits.specs.Bits.{bits_of, facing}
use Rattle.deku_bits.specs.Devices.{Health}
use Rattle.deku_bits.specs.Standings.{Standing, Going, Stopped, reader_state}
use Rattle.deku_bits.specs.Streams.{Stream, flow, fresh, left, taken, normal, Has}
use Rattle.deku_bits.specs.Outcomes.{Meaning, Outcome, Quiet, Broken, Mapped, Value, Refusal}
use Rattle.deku_bits.specs.ReaderCalls.{TakesBits, window_of}
use Rattle.deku_bits.proofs.Binary.{length-bits_of}
use Rattle.deku_bits.proofs.Packed.{bits_of-split, bits_of-low}
use Rattle.deku_bits.proofs.ReaderLaws.{taken_length}
use Rattle.deku_bits.proofs.Taking.{cut_law}
use Rattle.deku_num.specs.Cutting.{front, behind}
use Rattle.deku_num.proofs.FromBits.{length-faced}
use Rattle.deku_meanings.specs.Composing.{Answer, Answered, Second, First, JoinedBy}
use Rattle.deku_reading.specs.Cutting.{IsCut, IsReadOf, IsOfNumber, IsCutFrom}
use Rattle.deku_reading.specs.declared.items.Chain.{Chain}
use Rattle.deku_reading.specs.declared.items.Last.{Last}

-- ---- results
pub ok_same : {V : Type 0} {x y : V} → ◌≡◌ {A = Result V DekuError} (Ok x) (Ok y) → x ≡ y
ok_same e = cc

pub no_value : {V : Type 0} {x : V} {e : DekuError} → ◌≡◌ {A = Result V DekuError} (Err e) (Ok x) → ⊥
no_value e = absurd (cc)

-- ---- two reads in place of one
normal_window : (w : List Bool) (bs : List ℕ) → length w ≤ 8 → length (normal (record { window = w; bytes = bs })).window < 8
unfolding normal
normal_window w bs l = ⊎_elim (λ (h : length w < 8). rw (ne_eqb (length w) 8 (λ (e : length w ≡ 8). omega (arith, h, e))) h) (λ (h : 8 ≤ length w). full (omega (arith, l, h))) (cases_lt (length w) 8)
  where
    full : length w ≡ 8 → length (normal (record { window = w; bytes = bs })).window < 8
    full e = rw (eq-eqb (length w) 8 e) (omega arith)

pub short_at : (now : Option (List ℕ)) (s : Standing (List Bool)) → length (window_of s) ≤ 8 → IsCut (reader_state now s)
short_at None (Going w c) l = tt
short_at (Some bs) (Going w c) l = normal_window w bs l
short_at now (Stopped w f c) l = tt

took : (o : Order) (n c : ℕ) (S : Stream) → c + n < 2 ^ 64 → Has n S → TakesBits o n false (Going (Some S) c) (Ok (taken o n S)) (Going (Some (left o n S)) (c + n))
took o n c S room has = inr (room, inl (has, refl, refl))

-- the first bits, and then the others
pub taken_two : (o : Order) (m n : ℕ) (xs ys : List Bool) (s u : Standing (Option Stream)) → IsCut s → length xs ≡ m → TakesBits o (m + n) false s (Ok (xs ++ ys)) u
    → (t : Standing (Option Stream)) × TakesBits o m false s (Ok xs) t × TakesBits o n false t (Ok ys) u × IsCut t
taken_two o m n xs ys (Stopped a e c) u short long p = let no = p.0 in absurd (cc)
taken_two o m n xs ys (Going a c) u short long (inl p) = let no = p.1.2 in absurd (cc)
taken_two o m n xs ys (Going (Some S) c) u short long (inr (room, inr p)) = let no = p.1.0 in absurd (cc)
taken_two o m n xs ys (Going None c) u short long (inr (room, inr p)) = let no = p.0 in absurd (cc)
taken_two o m n xs ys (Going (Some S) c) u short long (inr (room, inl p)) =
    let L : Stream = left o m S in
    let cut = cut_law o m n S short p.0 in
    let first = took o m c S (omega (arith, room)) (omega (arith, p.0)) in
    let front : length (taken o m S) ≡ m = taken_length o m false (Going (Some S) c) (taken o m S) (Going (Some L) (c + m)) first in
    let all : xs ++ ys ≡ taken o m S ++ taken o n L = ok_same p.1 ∙ cut.0 in
    let is_first : xs ≡ taken o m S = sym (take_at xs ys m long) ∙ ap (take m) all ∙ take_at (taken o m S) (taken o n L) m front in
    let is_second : ys ≡ taken o n L = sym (drop_at xs ys m long) ∙ ap (drop m) all ∙ drop_at (taken o m S) (taken o n L) m front in
    let count : c + (m + n) ≡ c + m + n = omega arith in
    let ends : u ≡ Going (Some (left o n L)) (c + m + n) = p.2 ∙ ap₂ (λ T k. Going (Some T) k) cut.1 count in (
      Going (Some L) (c + m),
      rw is_first first,
      rw (is_second, ends) (took o n (c + m) L (omega (arith, room)) cut.3),
      cut.2,
    )
taken_two o m n xs ys (Going None c) u short long (inr (room, inl p)) =
    let same : xs ++ ys ≡ p.0 = ok_same p.3 in
    let behind : length ys ≡ n = omega (arith, long, ap length same, p.2, length-append xs ys) in
    let count : c + (m + n) ≡ c + m + n = omega arith in (
      Going None (c + m),
      inr (omega (arith, room), inl (xs, None, long, refl, refl)),
      inr (omega (arith, room), inl (ys, p.1, behind, refl, p.4 ∙ ap (λ k. Going p.1 k) count)),
      tt,
    )

-- a number of the first bits, and one of the others
pub number_cut : (o : Order) (m n k : ℕ) (s u : Standing (Option Stream)) → IsCut s → TakesBits o (m + n) false s (Ok (facing o (bits_of (m + n) k))) u
    → (t : Standing (Option Stream)) × TakesBits o m false s (Ok (facing o (bits_of m (front o k m n)))) t × TakesBits o n false t (Ok (facing o (bits_of n (behind o k m n)))) u × IsCut t
number_cut Msb0 m n k s u cut p =
    let two : bits_of (m + n) k ≡ bits_of m (k / 2 ^ n) ++ bits_of n (k % 2 ^ n) = bits_of-split m n k ∙ ap (λ ys. bits_of m (k / 2 ^ n) ++ ys) (sym (bits_of-low n k)) in
    taken_two Msb0 m n (bits_of m (k / 2 ^ n)) (bits_of n (k % 2 ^ n)) s u cut (length-bits_of m (k / 2 ^ n)) (subst (λ xs. TakesBits Msb0 (m + n) false s (Ok xs) u) two p)
number_cut Lsb0 m n k s u cut p =
    let first : List Bool = reverse (bits_of m (k % 2 ^ m)) in
    let others : List Bool = reverse (bits_of n (k / 2 ^ m)) in
    let turn : m + n ≡ n + m = omega arith in
    let two : reverse (bits_of (m + n) k) ≡ first ++ others =
    ap (λ i. reverse (bits_of i k)) turn ∙ ap reverse (bits_of-split n m k) ∙ reverse-append (bits_of n (k / 2 ^ m)) (bits_of m k) ∙ ap (λ ys. reverse ys ++ others) (sym (bits_of-low m k)) in
    taken_two Lsb0 m n first others s u cut (length-faced Lsb0 m (k % 2 ^ m)) (subst (λ xs. TakesBits Lsb0 (m + n) false s (Ok xs) u) two p)

-- both fit their bits
pub front_below : (o : Order) (k m n : ℕ) → k < 2 ^ (m + n) → front o k m n < 2 ^ m
front_below Msb0 k m n small = shr_below k m n small
front_below Lsb0 k m n small = mod-lt k (pow_pos m)

behind_below : (o : Order) (k m n : ℕ) → k < 2 ^ (m + n) → behind o k m n < 2 ^ n
behind_below Msb0 k m n small = mod-lt k (pow_pos n)
behind_below Lsb0 k m n small = let turn : m + n ≡ n + m = omega arith in shr_below k n m (subst (λ i. k < 2 ^ i) turn small)

-- the others as the code has them
one_shifted : (n : ℕ) → n < 64 → 1 * 2 ^ n % 2 ^ 64 ≡ 2 ^ n
one_shifted n few = let one : 1 * 2 ^ n ≡ 2 ^ n = omega arith in rw one (mod-eq_of_lt (pow_below n 64 few))

pub others_high : (o : Order) (x word m n : ℕ) → o ≡ Msb0 → n < 64 → x ≡ word % (1 * 2 ^ n % 2 ^ 64) → x ≡ behind o word m n
others_high o x word m n high few is = rw high (is ∙ ap (λ p. word % p) (one_shifted n few))

pub others_low : (o : Order) (x word m n : ℕ) → o ≡ Lsb0 → x ≡ word / 2 ^ m → x ≡ behind o word m n
others_low o x word m n low is = rw low is

pub others_below : (o : Order) (x word m n : ℕ) → x ≡ behind o word m n → word < 2 ^ (m + n) → x < 2 ^ n
others_below o x word m n is small = rw is (behind_below o word m n small)

-- cut from a number, or from one of more bits
front_of : (o : Order) (word a b c : ℕ) → front o word a (b + c) ≡ front o (front o word (a + b) c) a b
front_of Msb0 word a b c = let turn : c + b ≡ b + c = omega arith in sym (shr-shr word c b ∙ ap (λ i. word / 2 ^ i) turn)
front_of Lsb0 word a b c = let turn : a + b ≡ b + a = omega arith in sym (ap (λ i. word % 2 ^ i % 2 ^ a) turn ∙ mod-mod-pow word b a)

behind_of : (o : Order) (word a b c : ℕ) → front o (behind o word a (b + c)) b c ≡ behind o (front o word (a + b) c) a b
behind_of Msb0 word a b c = field_of word b c
behind_of Lsb0 word a b c = let turn : a + b ≡ b + a = omega arith in sym (ap (λ i. word % 2 ^ i / 2 ^ a) turn ∙ field_of word b a)

-- ---- known streams
-- it gives one list of bits, and leaves one state
pub one_taken : (o : Order) (n c : ℕ) (S : Stream) (xs ys : List Bool) (t u : Standing (Option Stream)) → TakesBits o n false (Going (Some S) c) (Ok xs) t → TakesBits o n false (Going (Some S) c) (Ok ys) u → (ys ≡ xs) × (u ≡ t)
one_taken o n c S xs ys t u (inl p) q = let no = p.1.2 in absurd (cc)
one_taken o n c S xs ys t u (inr (room, inr p)) q = let no = p.1.0 in absurd (cc)
one_taken o n c S xs ys t u (inr (room, inl p)) (inl q) = let no = q.1.2 in absurd (cc)
one_taken o n c S xs ys t u (inr (room, inl p)) (inr (more, inr q)) = let no = q.1.0 in absurd (cc)
one_taken o n c S xs ys t u (inr (room, inl p)) (inr (more, inl q)) = (ok_same (q.1 ∙ sym p.1), q.2 ∙ sym p.2)

-- and does not end before them
pub not_ended : (o : Order) (n c : ℕ) (S : Stream) (xs : List Bool) (e : DekuError) (t u : Standing (Option Stream)) → TakesBits o n false (Going (Some S) c) (Ok xs) t → TakesBits o n false (Going (Some S) c) (Err e) u → ⊥
not_ended o n c S xs e t u (inl p) q = let no = p.1.2 in absurd (cc)
not_ended o n c S xs e t u (inr (room, inr p)) q = let no = p.1.0 in absurd (cc)
not_ended o n c S xs e t u (inr (room, inl p)) (inl q) = omega (arith, room, q.0)
not_ended o n c S xs e t u (inr (room, inl p)) (inr (more, inr q)) = omega (arith, p.0, q.0)
not_ended o n c S xs e t u (inr (room, inl p)) (inr (more, inl q)) = let no = q.1 in absurd (cc)

-- a stream that is known, and goes on
abbrev IsKnown : Standing (Option Stream) → Type 0
IsKnown (Going (Some S) c) = ⊤
IsKnown (Going None c) = ⊥
IsKnown (Stopped a e c) = ⊥

known_on : (o : Order) (n c : ℕ) (S : Stream) (xs : List Bool) (t : Standing (Option Stream)) → TakesBits o n false (Going (Some S) c) (Ok xs) t → IsKnown t
known_on o n c S xs t (inl p) = let no = p.1.2 in absurd (cc)
known_on o n c S xs t (inr (room, inr p)) = let no = p.1.0 in absurd (cc)
known_on o n c S xs t (inr (room, inl p)) = subst IsKnown (sym p.2) tt

-- the number of the next bits of one
number_at : {V : Type 0} (m : Meaning (Option Stream) V) (o : Order) (n : ℕ) → IsOfNumber m o n → (k : ℕ) (s t : Standing (Option Stream)) → k < 2 ^ n → IsKnown s → IsCut s
    → TakesBits o n false s (Ok (facing o (bits_of n k))) t → (r : Result V DekuError) (u : Standing (Option Stream)) → m false s r u → (v : V) × (r ≡ Ok v) × (u ≡ t) × IsReadOf m o n k v
number_at m o n is k (Going (Some S) c) t small known short took r u reads = is k S c t small short took r u reads
number_at m o n is k (Going None c) t small known short took r u reads = absurd known
number_at m o n is k (Stopped a e c) t small known short took r u reads = absurd known

-- ---- an item and those after it
pub answer_is : {A V : Type 0} {v : V} (b : Bool) (s : Standing A) (r : Result V DekuError) (u : Standing A) → Answer v b s r u → (b ≡ false) × (r ≡ Ok v) × (u ≡ s)
answer_is b s r u Answered = (refl, refl, refl)

module _ {V W X : Type 0} (join : V → W → X) (o : Order) (m : Meaning (Option Stream) V) (l : Meaning (Option Stream) W) (a b : ℕ) where
  pub joined_read : (n k : ℕ) (v : V) (w : W) → n ≡ a + b → IsReadOf m o a (front o k a b) v → IsReadOf l o b (behind o k a b) w → IsReadOf (JoinedBy join m l) o n k (join v w)
  joined_read n k v w whole first others = λ s u cut took.
      let two = number_cut o a b k s u cut (subst (λ i. TakesBits o i false s (Ok (facing o (bits_of i k))) u) whole took) in
      Second v two.0 (first s two.0 cut two.1) (Second w u (others two.0 u two.3 two.2) Answered)

  pub joined_number : IsOfNumber m o a → IsOfNumber l o b → IsOfNumber (JoinedBy join m l) o (a + b)
  joined_number first others = λ k S c t small short took r u reads. joined k S c t small short took r u reads
    where
      joined : (k : ℕ) (S : Stream) (c : ℕ) (t : Standing (Option Stream)) → k < 2 ^ (a + b) → length S.window < 8 → TakesBits o (a + b) false (Going (Some S) c) (Ok (facing o (bits_of (a + b) k))) t
          → (r : Result X DekuError) (u : Standing (Option Stream)) → JoinedBy join m l false (Going (Some S) c) r u → (x : X) × (r ≡ Ok x) × (u ≡ t) × IsReadOf (JoinedBy join m l) o (a + b) k x
      joined k S c t small short took r u reads = by_cases reads
        where
          two : (y : Standing (Option Stream)) × TakesBits o a false (Going (Some S) c) (Ok (facing o (bits_of a (front o k a b)))) y × TakesBits o b false y (Ok (facing o (bits_of b (behind o k a b)))) t × IsCut y
          two = number_cut o a b k (Going (Some S) c) t short took

          start : (q : Result V DekuError) (y : Standing (Option Stream)) → m false (Going (Some S) c) q y → (v : V) × (q ≡ Ok v) × (y ≡ two.0) × IsReadOf m o a (front o k a b) v
          start = first (front o k a b) S c two.0 (front_below o k a b small) short two.1

          end : (y : Standing (Option Stream)) → y ≡ two.0 → (q : Result W DekuError) (z : Standing (Option Stream)) → l false y q z → (w : W) × (q ≡ Ok w) × (z ≡ t) × IsReadOf l o b (behind o k a b) w
          end y is q z p = number_at l o b others (behind o k a b) two.0 t (behind_below o k a b small) (known_on o a c S _ two.0 two.1) two.3 two.2 q z (subst (λ x. l false x q z) is p)

          by_cases : JoinedBy join m l false (Going (Some S) c) r u → (x : X) × (r ≡ Ok x) × (u ≡ t) × IsReadOf (JoinedBy join m l) o (a + b) k x
          by_cases (First e p x) = absurd (no_value (start (Err e) u p).1)
          by_cases (Second v y p (First e q x)) = absurd (no_value (end y (start (Ok v) y p).2 (Err e) u q).1)
          by_cases (Second v y p (Second w z q x)) =
              let f = start (Ok v) y p in
              let g = end y f.2 (Ok w) z q in
              let is = answer_is false z r u x in
              (join v w, is.1, is.2 ∙ g.2, joined_read (a + b) k v w refl (subst (IsReadOf m o a (front o k a b)) (sym (ok_same f.1)) f.3) (subst (IsReadOf l o b (behind o k a b)) (sym (ok_same g.1)) g.3))

  -- from the front of a word
  pub joined_cut : (word room : ℕ) (v : V) (w : W) → IsCutFrom m o word room v a → IsCutFrom l o (behind o word a (room - a)) (room - a) w b → IsCutFrom (JoinedBy join m l) o word room (join v w) (a + b)
  joined_cut word room v w first others =
      let c : ℕ = room - (a + b) in
      let both : room - a ≡ b + c = omega (arith, first.within, others.within) in
      let none : room - a - b ≡ c = omega arith in
      let start : front o word a (room - a) ≡ front o (front o word (a + b) c) a b = ap (front o word a) both ∙ front_of o word a b c in
      let end : front o (behind o word a (room - a)) b (room - a - b) ≡ behind o (front o word (a + b) c) a b = ap₂ (λ i j. front o (behind o word a i) b j) both none ∙ behind_of o word a b c in
      record {
        some = omega (arith, first.some);
        within = omega (arith, first.within, others.within);
        number = joined_number first.number others.number;
        reads = joined_read (a + b) (front o word (a + b) c) v w refl (subst (λ k. IsReadOf m o a k v) start first.reads) (subst (λ k. IsReadOf l o b k w) end others.reads);
      }

-- the whole of a word
front_whole : (o : Order) (word n : ℕ) → word < 2 ^ n → front o word n 0 ≡ word
front_whole Msb0 word n small = omega arith
front_whole Lsb0 word n small = mod-eq_of_lt small

pub whole_cut : {V : Type 0} {m : Meaning (Option Stream) V} (o : Order) (word n all : ℕ) (v : V) → word < 2 ^ n → IsCutFrom m o word n v all → all ≡ n → IsReadOf m o n word v
whole_cut {V} {m} o word n all v small is e =
    let none : n - all ≡ 0 = omega (arith, e) in
    let same : front o word all (n - all) ≡ word = ap₂ (λ i j. front o word i j) e none ∙ front_whole o word n small in
    subst (λ i. IsReadOf m o i word v) e (subst (λ k. IsReadOf m o all k v) same is.reads)

-- ---- the bits of a number by themselves
-- a read of bytes that begin with the bits of a number
pub number_front : (o : Order) (n k : ℕ) (eight : List ℕ) → n ≤ 64 → length eight ≡ 8 → take n (flow o eight) ≡ facing o (bits_of n k)
    → TakesBits o n false (Going (Some (fresh eight)) 0) (Ok (facing o (bits_of n k))) (Going (Some (left o n (fresh eight))) n)
unfolding taken
number_front Msb0 n k eight few long is =
    let count : 0 + n ≡ n = omega arith in
    inr (omega (arith, few), inl (omega (arith, long, few), ap (λ xs. Ok xs) (sym is), ap (λ c. Going (Some (left Msb0 n (fresh eight))) c) (sym count)))
number_front Lsb0 n k eight few long is =
    let count : 0 + n ≡ n = omega arith in
    inr (omega (arith, few), inl (omega (arith, long, few), ap (λ xs. Ok xs) (sym is), ap (λ c. Going (Some (left Lsb0 n (fresh eight))) c) (sym count)))

-- a reader of bytes before the first
abbrev pub bytes_left : Cursor (Bor (List ℕ)) → Option (List ℕ)
bytes_left k = Some (drop (cursor_position k) (cursor_inner k).now)

pub reads_fresh : (k : Cursor (Bor (List ℕ))) (b : Bor (List ℕ)) (s : Standing (List Bool)) → cursor_inner k ≡ b → cursor_position k ≡ 0 → s ≡ Going [] 0 → reader_state (bytes_left k) s ≡ Going (Some (fresh b.now)) 0
unfolding normal
reads_fresh k b s inner place start = rw (inner, place, start) refl

pub made_of : {V : Type 0} (m : Meaning (Option Stream) V) (o : Order) (n k : ℕ) (eight : List ℕ) (s : Standing (Option Stream)) → IsOfNumber m o n → n ≤ 64 → k < 2 ^ n → length eight ≡ 8
    → take n (flow o eight) ≡ facing o (bits_of n k) → s ≡ Going (Some (fresh eight)) 0 → (r : Result V DekuError) (u : Standing (Option Stream)) → m false s r u → (v : V) × (r ≡ Ok v) × IsReadOf m o n k v
made_of m o n k eight s is few small long bits start r u reads =
    let made = is k (fresh eight) 0 _ small (omega arith) (number_front o n k eight few long bits) r u (subst (λ x. m false x r u) start reads) in
    (made.0, made.1, made.3)

-- ---- values that are put another way
-- what was returned, with h on it
abbrev pub put : {V W : Type 0} → (V → W) → Result V DekuError → Result W DekuError
put h (Ok v) = Ok (h v)
put h (Err e) = Err e

-- with h on its values, what one meaning allows the other allows
pub record Turned {A V W : Type 0} (h : V → W) (m : Meaning A V) (n : Meaning A W) : Type 0 where
  pub turn : (b : Bool) (s : Standing A) (r : Result V DekuError) (u : Standing A) → m b s r u → n b s (put h r) u

pub turned : {A V W : Type 0} {h : V → W} {m : Meaning A V} {n : Meaning A W} {s : Standing A} {f : Health} {r : Result V DekuError} {u : Standing A} {g : Health}
    → Turned h m n → Outcome m s f r u g → Outcome n s f (put h r) u g
turned {s} {r} {u} t (Quiet p kept) = Quiet (t.turn false s r u p) kept
turned {h} {s} {r} {u} t (Broken a p failed) =
    Broken (record { kind = a.kind; count = a.count; left = a.left; answered = ap (put h) a.answered; kept = a.kept }) (t.turn true s r u p) failed

-- the value of one item
pub last_turned : {A V : Type 0} {m : Meaning A V} → Turned (λ (l : Last V). l.0) (Mapped (λ v. record { 0 = v }) m) m
last_turned {A} {V} {m} = record { turn = turn }
  where
    turn : (b : Bool) (s : Standing A) (r : Result (Last V) DekuError) (u : Standing A) → Mapped (λ v. record { 0 = v }) m b s r u → m b s (put (λ (l : Last V). l.0) r) u
    turn b s r u (Value v p e) = rw e p
    turn b s r u (Refusal x p e) = rw e p

-- an item and those after it
pub chain_turned : {A V W X Y : Type 0} {m : Meaning A V} {n : Meaning A W} {l : Meaning A X} {h : W → X} {join : V → X → Y}
    → Turned h n l → Turned (λ (c : Chain V W). join c.0 (h c.1)) (JoinedBy (λ v w. record { 0 = v; 1 = w }) m n) (JoinedBy join m l)
chain_turned {A} {V} {W} {X} {Y} {m} {n} {l} {h} {join} t = record { turn = turn }
  where
    turn : (b : Bool) (s : Standing A) (r : Result (Chain V W) DekuError) (u : Standing A) → JoinedBy (λ v w. record { 0 = v; 1 = w }) m n b s r u → JoinedBy join m l b s (put (λ (c : Chain V W). join c.0 (h c.1)) r) u
    turn b s r u (First e p q) = First e p (ap (put (λ (c : Chain V W). join c.0 (h c.1))) q)
    turn b s r u (Second v w p (First e q z)) = Second v w p (First e (t.turn b w (Err e) u q) (ap (put (λ (c : Chain V W). join c.0 (h c.1))) z))
    turn b s r u (Second v w p (Second x y q a)) =
        let is = answer_is b y r u a in
        rw (is.0, is.1, is.2) (Second v w p (Second (h x) y (t.turn false w (Ok x) y q) Answered))
