-- Groups of bits after those that are held: joined, cut, and what goes out.
use Rattle.std.proofs.Common.{ℕ, ◌+◌, ◌*◌, ◌-◌, ◌/◌, ◌%◌, ◌^◌, ◌<◌, ◌≤◌, ◌≡◌, Bool, true, false, List, [], ◌∷◌, ◌++◌, reverse, length, take, set, refl, sym, ap, ap₂, ◌∙◌, append_assoc, append-nil, arith, subst}
use mir.Val.{bool_byte}
use Rattle.std.proofs.lemmas.List.{take_more_set, reverse-append}
use Rattle.std.proofs.lemmas.Nat.{shr_below}
use Rattle.deku_stream.specs.declared.ctx.Order.{Order}
use Rattle.deku_stream.specs.declared.ctx.Order.TheVariants.{Msb0, Lsb0}
use Rattle.deku_stream.specs.Bits.{bits_of, byte_bits, facing}
use Rattle.deku_stream.specs.Writers.{remainder}
use Rattle.deku_writer.specs.Pushing.{Fills}
use Rattle.deku_stream.proofs.Binary.{length-facing}
use Rattle.deku_stream.proofs.Cuts.{emitted, emitted-full, emitted-short, remainder-full, remainder-short, length-remainder, length-byte_bits, byte-of}
use Rattle.deku_stream.proofs.Appends.{emitted-append, remainder-append}
use Rattle.deku_stream.proofs.Packed.{bits_of-split, bits_of-low, bits_of-join, joined_below}

-- a group after another, as an order meets them
module _ (a b x y : ℕ) (p : x < 2 ^ a) (q : y < 2 ^ b) where
  pub join_high : facing Msb0 (bits_of (a + b) (x * 2 ^ b + y)) ≡ facing Msb0 (bits_of a x) ++ facing Msb0 (bits_of b y)
  join_high = sym (bits_of-join a b x y q)

  pub join_low : facing Lsb0 (bits_of (a + b) (x + y * 2 ^ a)) ≡ facing Lsb0 (bits_of a x) ++ facing Lsb0 (bits_of b y)
  join_low =
      let n : a + b ≡ b + a = omega arith in
      let v : x + y * 2 ^ a ≡ y * 2 ^ a + x = omega arith in
      rw (n, v) (ap reverse (sym (bits_of-join b a y x p)) ∙ reverse-append (bits_of b y) (bits_of a x))

  pub join_low_below : x + y * 2 ^ a < 2 ^ (a + b)
  join_low_below =
      let n : a + b ≡ b + a = omega arith in
      let v : x + y * 2 ^ a ≡ y * 2 ^ a + x = omega arith in
      rw (n, v) (joined_below b a y x q p)

-- ---- a number cut in two
module _ (n v : ℕ) (whole : 8 ≤ n) (inside : v < 2 ^ n) where
  pub cut_high_below : v / 2 ^ (n - 8) < 2 ^ 8
  cut_high_below = let e : 8 + (n - 8) ≡ n = omega arith in shr_below v 8 (n - 8) (rw e inside)

  pub cut_high : facing Msb0 (bits_of n v) ≡ facing Msb0 (byte_bits (v / 2 ^ (n - 8))) ++ facing Msb0 (bits_of (n - 8) (v % 2 ^ (n - 8)))
  unfolding byte_bits
  cut_high =
      let e : n ≡ 8 + (n - 8) = omega arith in
      ap (λ k. bits_of k v) e ∙ bits_of-split 8 (n - 8) v ∙ ap (λ s. bits_of 8 (v / 2 ^ (n - 8)) ++ s) (sym (bits_of-low (n - 8) v))

  pub cut_low_below : v / 2 ^ 8 < 2 ^ (n - 8)
  cut_low_below = let e : n - 8 + 8 ≡ n = omega arith in shr_below v (n - 8) 8 (rw e inside)

  pub cut_low : facing Lsb0 (bits_of n v) ≡ facing Lsb0 (byte_bits (v % 256)) ++ facing Lsb0 (bits_of (n - 8) (v / 2 ^ 8))
  unfolding byte_bits
  cut_low =
      let e : n ≡ n - 8 + 8 = omega arith in
      ap reverse (ap (λ k. bits_of k v) e ∙ bits_of-split (n - 8) 8 v ∙ ap (λ s. bits_of (n - 8) (v / 2 ^ 8) ++ s) (sym (bits_of-low 8 v)))
      ∙ reverse-append (bits_of (n - 8) (v / 2 ^ 8)) (bits_of 8 (v % 256))

-- ---- a group after held bits
pub fills_none : (o : Order) (h hs xs : List Bool) → facing o hs ≡ facing o h ++ xs → length hs < 8 → Fills o h hs xs []
fills_none o h hs xs e l =
    let k : length (facing o h ++ xs) < 8 = omega (arith, ap length e, length-facing o hs) in
    record {
      bytes = sym (emitted-short o (facing o h ++ xs) k);
      rest = e ∙ sym (remainder-short (facing o h ++ xs) k);
    }

pub fills_one : (o : Order) (h hs xs : List Bool) (byte : ℕ) → facing o h ++ xs ≡ facing o (byte_bits byte) ++ facing o hs → byte < 256 → length hs < 8 → Fills o h hs xs (byte ∷ [])
fills_one o h hs xs byte e b l =
    let w : length (facing o (byte_bits byte)) ≡ 8 = length-facing o (byte_bits byte) ∙ length-byte_bits byte in
    let k : length (facing o hs) < 8 = rw length-facing l in
    record {
      bytes = sym (ap (emitted o) e ∙ emitted-full o (facing o (byte_bits byte)) (facing o hs) w ∙ ap₂ (λ x y. x ∷ y) (byte-of o byte b) (emitted-short o (facing o hs) k));
      rest = sym (ap (λ t. remainder t) e ∙ remainder-full (facing o (byte_bits byte)) (facing o hs) w ∙ remainder-short (facing o hs) k);
    }

-- more bits after those that filled
pub Fills-nil : (o : Order) (h : List Bool) → length h < 8 → Fills o h h [] []
Fills-nil o h l = fills_none o h h [] (sym (append-nil (facing o h))) l

pub Fills-trans : (o : Order) (h hs hs2 xs ys : List Bool) (out more : List ℕ) → Fills o h hs xs out → Fills o hs hs2 ys more → Fills o h hs2 (xs ++ ys) (out ++ more)
Fills-trans o h hs hs2 xs ys out more p q =
    let t : List Bool = facing o h ++ xs in
    let e : t ++ ys ≡ facing o h ++ (xs ++ ys) = append_assoc (facing o h) xs ys in
    record {
      bytes = ap₂ (λ x y. x ++ y) p.bytes (q.bytes ∙ ap (λ l. emitted o (l ++ ys)) p.rest) ∙ sym (emitted-append o t ys) ∙ ap (emitted o) e;
      rest = q.rest ∙ ap (λ l. remainder (l ++ ys)) p.rest ∙ sym (remainder-append t ys) ∙ ap (λ l. remainder l) e;
    }

-- what is held is no byte
pub Fills-short : {o : Order} {h hs xs : List Bool} {out : List ℕ} → Fills o h hs xs out → length hs < 8
Fills-short {o} {h} {hs} {xs} {out} f = omega (arith, length-facing o hs, ap length f.rest, length-remainder (facing o h ++ xs))

-- one byte more, in its place
pub fills_more : (o : Order) (h hs hs2 xs ys : List Bool) (out : List ℕ) (i byte : ℕ) → i < length out → Fills o h hs xs (take i out) → Fills o hs hs2 ys (byte ∷ [])
    → Fills o h hs2 (xs ++ ys) (take (i + 1) (set out i byte))
fills_more o h hs hs2 xs ys out i byte l p q = rw (take_more_set out i byte l) (Fills-trans o h hs hs2 xs ys (take i out) (byte ∷ []) p q)

-- one bit
pub one_bit : (o : Order) (b : Bool) → facing o (bits_of 1 (bool_byte b)) ≡ b ∷ []
unfolding bits_of
one_bit Msb0 true = refl
one_bit Msb0 false = refl
one_bit Lsb0 true = refl
one_bit Lsb0 false = refl

pub bit_fills : (o : Order) (h hs : List Bool) (b : Bool) (v : ℕ) (out : List ℕ) → v ≡ bool_byte b → Fills o h hs (facing o (bits_of 1 v)) out → Fills o h hs (b ∷ []) out
bit_fills o h hs b v out e f = subst (λ x. Fills o h hs x out) (ap (λ x. facing o (bits_of 1 x)) e ∙ one_bit o b) f
