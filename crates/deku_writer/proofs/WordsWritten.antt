-- Words that are written: their lists, and what they fill after held bits.
use Rattle.std.proofs.Common.{refl, ℕ, zero, suc, ◌+◌, ◌*◌, ◌-◌, ◌/◌, ◌%◌, ◌^◌, ◌<◌, ◌≤◌, ◌≡◌, Bool, List, [], ◌∷◌, ◌++◌, length, take, Result, Ok, Err, Bor, codes, None, sym, ap, ap₂, ◌∙◌, append_assoc, append-nil, arith, length-append, mod-lt, mod-eq_of_lt}
use Rattle.std.proofs.lemmas.List.{take_at, length-take-le}
use Rattle.std.proofs.lemmas.Nat.{shr-shr, shr_below}
use Rattle.deku_stream.specs.declared.ctx.Order.{Order}
use Rattle.std.specs.declared.io.ErrorKind.{ErrorKind}
use Rattle.deku_stream.specs.declared.error.DekuError.{DekuError}
use Rattle.deku_stream.specs.declared.error.DekuError.TheVariants.{InvalidParam, Io}
use Rattle.deku_stream.specs.Kept.{standing_of}
use Rattle.deku_stream.specs.Bits.{bin, bits_of, byte_bits, facing, group_number, word_of, shown}
use Rattle.deku_device.specs.Devices.{KnownSink}
use Rattle.deku_stream.specs.Standings.{Standing, Stopped, writer_state}
use Rattle.deku_stream.specs.Writers.{Nothing, Pending, held}
use Rattle.deku_writer.specs.WriterCalls.{WritesAt, WritesBits, WritesWord}
use Rattle.deku_stream.specs.Streams.{flow}
use Rattle.deku_writer.specs.Pushing.{onto_bytes, low_bytes, word_bits, GaveUp, PushedOnto}
use Rattle.deku_stream.proofs.Binary.{bin-bits_of, length-bits_of, length-facing, facing-facing}
use Rattle.deku_stream.proofs.Cuts.{length-byte_bits, length-flow, byte-of, flow-append}
use Rattle.deku_writer.proofs.Emits.{write_nothing, write_full, write_done, write_stopped}
use Rattle.deku_stream.proofs.Handing.{weaker}
use Rattle.deku_stream.proofs.Shown.{length-shown}
use Rattle.deku_stream.proofs.Words.{word_of-full, word_of-short}

-- ---- the bytes of a number
pub length-low_bytes : (k w : ℕ) → length (low_bytes k w) ≡ k
length-low_bytes zero w = refl
length-low_bytes (suc k) w = ap suc (length-low_bytes k (w / 256))

-- one byte more, after the others
pub low_bytes-more : (k w : ℕ) → low_bytes (k + 1) w ≡ low_bytes k w ++ (w / 2 ^ (8 * k) % 256) ∷ []
low_bytes-more zero w = let e : w / 2 ^ (8 * 0) ≡ w = omega arith in rw e refl
low_bytes-more (suc k) w =
    let n : 8 + 8 * k ≡ 8 * suc k = omega arith in
    let e : w / 256 / 2 ^ (8 * k) ≡ w / 2 ^ (8 * suc k) = shr-shr w 8 (8 * k) ∙ ap (λ m. w / 2 ^ m) n in
    let one : suc k + 1 ≡ suc (k + 1) = omega arith in
    ap (λ m. low_bytes m w) one ∙ ap (λ l. w % 256 ∷ l) (low_bytes-more k (w / 256)) ∙ ap (λ x. w % 256 ∷ low_bytes k (w / 256) ++ x % 256 ∷ []) e

-- ---- the list of a word
pub length-word_bits : (o : Order) (n w : ℕ) → length (word_bits o n w) ≡ n
unfolding word_bits
length-word_bits o n w =
    let g : List Bool = facing o (bits_of (n % 8) (w / 2 ^ (8 * (n / 8)))) in
    let lg : length g ≡ n % 8 = length-facing o (bits_of (n % 8) (w / 2 ^ (8 * (n / 8)))) ∙ length-bits_of (n % 8) (w / 2 ^ (8 * (n / 8))) in
    length-append (flow o (low_bytes (n / 8) w)) g ∙ omega (arith, length-flow o (low_bytes (n / 8) w), length-low_bytes (n / 8) w, lg)

-- bytes of a number in front of what is left of it
pub word_of-bytes : (o : Order) (k w : ℕ) (t : List Bool) → word_of o t ≡ w / 2 ^ (8 * k) → word_of o (flow o (low_bytes k w) ++ t) ≡ w
word_of-bytes o zero w t e = e ∙ omega arith
word_of-bytes o (suc k) w t e =
    let b : ℕ = w % 256 in
    let g : List Bool = facing o (byte_bits b) in
    let lg : length g ≡ 8 = length-facing o (byte_bits b) ∙ length-byte_bits b in
    let s : List Bool = flow o (low_bytes k (w / 256)) in
    let n : 8 * suc k ≡ 8 + 8 * k = omega arith in
    let q : w / 2 ^ (8 * suc k) ≡ w / 256 / 2 ^ (8 * k) = ap (λ m. w / 2 ^ m) n ∙ sym (shr-shr w 8 (8 * k)) in
    ap (word_of o) (append_assoc g s t) ∙ word_of-full o g (s ++ t) lg
    ∙ ap₂ (λ x y. x + 256 * y) (byte-of o b (mod-lt w (omega arith))) (word_of-bytes o k (w / 256) t (e ∙ q))
    ∙ omega arith

-- what is left of a number of n bits after its whole bytes
pub last_below : (n w : ℕ) → w < 2 ^ n → w / 2 ^ (8 * (n / 8)) < 2 ^ (n % 8)
last_below n w h = let e : n % 8 + 8 * (n / 8) ≡ n = omega arith in shr_below w (n % 8) (8 * (n / 8)) (rw e h)

-- the list of a word has that word
pub word_of-word_bits : (o : Order) (n w : ℕ) → w < 2 ^ n → word_of o (word_bits o n w) ≡ w
unfolding word_bits
word_of-word_bits o n w h =
    let c : ℕ = w / 2 ^ (8 * (n / 8)) in
    let g : List Bool = bits_of (n % 8) c in
    let lg : length (facing o g) ≡ n % 8 = length-facing o g ∙ length-bits_of (n % 8) c in
    let own : group_number o (facing o g) ≡ c = ap bin (facing-facing o g) ∙ bin-bits_of (n % 8) c ∙ mod-eq_of_lt (last_below n w h) in
    word_of-bytes o (n / 8) w (facing o g) (word_of-short o (facing o g) (omega arith) ∙ own)

pub length-shown_word : (o : Order) (n w : ℕ) → length (shown o (word_bits o n w)) ≡ n
length-shown_word o n w = length-shown o (word_bits o n w) ∙ length-word_bits o n w

-- ---- a word after held bits
-- one byte more
bytes_of_more : (o : Order) (i w : ℕ) → flow o (low_bytes (i + 1) w) ≡ flow o (low_bytes i w) ++ facing o (byte_bits (w / 2 ^ (8 * i) % 256))
bytes_of_more o i w =
    let b : ℕ = w / 2 ^ (8 * i) % 256 in
    ap (flow o) (low_bytes-more i w) ∙ flow-append o (low_bytes i w) (b ∷ []) ∙ ap (λ s. flow o (low_bytes i w) ++ s) (append-nil (facing o (byte_bits b)))

pub rest_more : (w rest i : ℕ) → rest ≡ w / 2 ^ (8 * i) → rest / 2 ^ 8 ≡ w / 2 ^ (8 * (i + 1))
rest_more w rest i e =
    let n : 8 * i + 8 ≡ 8 * (i + 1) = omega arith in
    ap (λ x. x / 2 ^ 8) e ∙ shr-shr w (8 * i) 8 ∙ ap (λ m. w / 2 ^ m) n

-- ---- a call that writes a word
pub word_written : (o : Order) (n w : ℕ) (t : KnownSink) (s : Standing Pending) (r : Result (Unit {0}) DekuError) (after : KnownSink) (u : Standing Pending) → w < 2 ^ n
    → WritesAt (WritesBits o (shown o (word_bits o n w))) t s r after u → WritesAt (WritesWord o n w) t s r after u
word_written o n w t s r after u h m =
    weaker (WritesBits o (shown o (word_bits o n w))) (WritesWord o n w) (writer_state t s) t.health r (writer_state after u) after.health
    (λ b x. (word_bits o n w, length-word_bits o n w, word_of-word_bits o n w h, x)) m

-- ---- a word as bits
-- the front of a list with a part laid over it
pub laid_front : {A : Type 0} (xs ys zs : List A) (m n : ℕ) → m ≤ length xs → n ≡ m + length ys → take n (take m xs ++ (ys ++ zs)) ≡ take m xs ++ ys
laid_front {A} xs ys zs m n l e =
    ap (take n) (sym (append_assoc (take m xs) ys zs))
    ∙ take_at (take m xs ++ ys) zs n (length-append (take m xs) ys ∙ omega (arith, length-take-le m xs l))

pub bits_more : (o : Order) (i w rest : ℕ) (xs ys zs : List Bool) → 8 * (i + 1) ≤ length xs → rest ≡ w / 2 ^ (8 * i) → ys ≡ facing o (bits_of 8 (rest % 256)) → take (8 * i) xs ≡ flow o (low_bytes i w)
    → take (8 * (i + 1)) (take (8 * i) xs ++ (ys ++ zs)) ≡ flow o (low_bytes (i + 1) w)
unfolding byte_bits
bits_more o i w rest xs ys zs l e b h =
    let ly : length ys ≡ 8 = ap length b ∙ length-facing o (bits_of 8 (rest % 256)) ∙ length-bits_of 8 (rest % 256) in
    let same : facing o (bits_of 8 (rest % 256)) ≡ facing o (byte_bits (w / 2 ^ (8 * i) % 256)) = ap (λ x. facing o (bits_of 8 (x % 256))) e in
    laid_front xs ys zs (8 * i) (8 * (i + 1)) (omega arith) (omega arith) ∙ ap₂ (λ x y. x ++ y) h (b ∙ same) ∙ sym (bytes_of_more o i w)

pub bits_all : (o : Order) (n w rest : ℕ) (xs ys zs : List Bool) → n ≤ length xs → rest ≡ w / 2 ^ (8 * (n / 8)) → ys ≡ facing o (bits_of (n % 8) rest) → take (8 * (n / 8)) xs ≡ flow o (low_bytes (n / 8) w)
    → take n (take (8 * (n / 8)) xs ++ (ys ++ zs)) ≡ word_bits o n w
unfolding word_bits
bits_all o n w rest xs ys zs l e b h =
    let ly : length ys ≡ n % 8 = ap length b ∙ length-facing o (bits_of (n % 8) rest) ∙ length-bits_of (n % 8) rest in
    laid_front xs ys zs (8 * (n / 8)) n (omega arith) (omega arith) ∙ ap₂ (λ x y. x ++ y) h (b ∙ ap (λ x. facing o (bits_of (n % 8) x)) e)

-- ---- what a call that writes a word did
bytes_made : (o : Order) (n w : ℕ) (h : List Bool) (m : ℕ) → m ≡ (length h + n) / 8 → m ≡ (length h + length (shown o (word_bits o n w))) / 8
bytes_made o n w h m e = e ∙ ap (λ x. (length h + x) / 8) (sym (length-shown_word o n w))

module _ (t after : KnownSink) (from to : Order) (h : List Bool) (n w c m : ℕ) (short : length h < 8) (inside : w < 2 ^ n) (made : m ≡ (length h + n) / 8) where
  pub word_done : (hs : List Bool) → m ≤ (2 ^ 64 - 1 - c) / 8 → c < 2 ^ 64 → PushedOnto t after from to h hs (shown to (word_bits to n w))
      → WritesAt (WritesWord to n w) t (standing_of (held from h) None c) (Ok tt) after (standing_of (held to hs) None (c + 8 * m))
  word_done hs fits l p =
      word_written to n w t (standing_of (held from h) None c) (Ok tt) after (standing_of (held to hs) None (c + 8 * m)) inside
      (write_done t after from to h hs (shown to (word_bits to n w)) c m short (bytes_made to n w h m made) fits l p)

  pub word_stopped : (k : ErrorKind) → m ≤ (2 ^ 64 - 1 - c) / 8 → c < 2 ^ 64 → GaveUp t after (onto_bytes from to h (shown to (word_bits to n w))) k
      → WritesAt (WritesWord to n w) t (standing_of (held from h) None c) (Err (Io k)) after (Stopped Nothing (Io k) c)
  word_stopped k fits l f =
      word_written to n w t (standing_of (held from h) None c) (Err (Io k)) after (Stopped Nothing (Io k) c) inside
      (write_stopped t after from to h (shown to (word_bits to n w)) c m k short (bytes_made to n w h m made) fits l f)

  pub word_full : (words : Bor (List ℕ)) → (2 ^ 64 - 1 - c) / 8 < m → words.now ≡ codes "count past usize"
      → WritesAt (WritesWord to n w) t (standing_of (held from h) None c) (Err (InvalidParam words)) t (standing_of (held from h) None c)
  word_full words past says =
      word_written to n w t (standing_of (held from h) None c) (Err (InvalidParam words)) t (standing_of (held from h) None c) inside
      (write_full t from to h (shown to (word_bits to n w)) c m words short (bytes_made to n w h m made) past says)

pub word_nothing : (t : KnownSink) (from to : Order) (h : List Bool) (n w c : ℕ) → w < 2 ^ n → n ≡ 0 → c < 2 ^ 64
    → WritesAt (WritesWord to n w) t (standing_of (held from h) None c) (Ok tt) t (standing_of (held from h) None c)
word_nothing t from to h n w c inside none l =
    word_written to n w t (standing_of (held from h) None c) (Ok tt) t (standing_of (held from h) None c) inside
    (write_nothing t from to h (shown to (word_bits to n w)) c (length-shown_word to n w ∙ none) l)
