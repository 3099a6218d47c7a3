-- Frames as bytes, and from bytes.
use Rattle.std.proofs.Common.{◌≡◌, ℕ, ◌+◌, ◌*◌, ◌/◌, ◌%◌, ◌<◌, ◌^◌, List, ◌++◌, length, map, drop, Result, Ok, Err, MatchResult, refl, ap, sym, ◌∙◌, subst, arith}
use Rattle.std.specs.Borrow.{Bor}
use Rattle.std.specs.declared.io.ErrorKind.TheVariants.{OutOfMemory}
use Rattle.deku_bits.specs.declared.error.DekuError.{DekuError}
use Rattle.deku_bits.specs.declared.error.DekuError.TheVariants.{Io}
use Rattle.deku_bits.specs.Pieces.{Piece, shape, total, laid_out}
use Rattle.deku_bits.proofs.Lengths.{length_law}
use Rattle.deku_num.specs.declared.ctx.Size.TheVariants.{Whole, Bits}
use Rattle.deku_num.specs.Numbers.{byte, unsigned}
use Rattle.deku.specs.Wholes.{IsRest}
use Rattle.deku_pieces.specs.Symmetric.{breadth}
use Rattle.deku_pieces.proofs.HighFirst.{Lying, Lies, in_step, number_lies, turns_lie, bytes_lie, byte_small}
use Rattle.deku_pieces.proofs.Packing.{laid_once}
use Rattle.deku_pieces.proofs.Unpacking.{rest_back, rest_taken}
use Rattle.deku_pieces.proofs.WholeBytes.{whole_bytes_law, take_drop, drop_front}
use Rattle.deku_frame.specs.declared.frame.Frame.{Frame}
use Rattle.deku_frame.specs.declared.frame.Frame.TheVariants.{Ping, Data, Pair}
use Rattle.deku_frame.specs.Frames.{id_of, head_of, OfHead, OfFrame, OfBody, SameFrame, ReadsFrame, WritesFrame}
use Rattle.deku_frame.specs.FrameLaws.{frame_symmetric}
use Rattle.deku_frame.specs.FramePromise.{WriteLaw, ReadLaw, RewriteLaw}

-- so many bytes are after the first one
abbrev behind_bytes : Frame → ℕ
behind_bytes (Ping token) = 2
behind_bytes (Data n payload) = 1 + length payload.items
behind_bytes (Pair l r) = 2

body_lies : (f : Frame) → Lies (OfBody f) (8 * behind_bytes f)
body_lies (Ping token) ps p = number_lies (unsigned 16) Whole token ps p
body_lies (Data n payload) ps p =
    let l = turns_lie (number_lies byte Whole n) (λ qs q. bytes_lie payload.items qs q.1) ps p in
    subst (Lying ps) (omega arith) l
body_lies (Pair k r) ps p = turns_lie (number_lies byte (Bits 5) k) (number_lies (unsigned 16) (Bits 11) r) ps p

frame_lies : (f : Frame) → Lies (OfFrame f) (8 + 8 * behind_bytes f)
frame_lies f ps p = turns_lie {m = 8} (turns_lie {m = 4} {n = 4} (number_lies byte (Bits 4) (id_of f)) (number_lies byte (Bits 4) 1)) (body_lies f) ps p

wide : (f : Frame) (ps : List Piece) → OfFrame f ps → breadth ps ≡ 8 * (1 + behind_bytes f)
wide f ps p = let w : breadth ps ≡ 8 + 8 * behind_bytes f = (frame_lies f ps p).wide in omega (arith, w)

long : (f : Frame) (ps : List Piece) → OfFrame f ps → length (laid_out ps) ≡ 1 + behind_bytes f
long f ps p = let w : total (map shape ps) ≡ 8 * (1 + behind_bytes f) = wide f ps p in omega (arith, w, length_law ps (in_step (frame_lies f ps p)))

-- no frame is long
few_bytes : (f : Frame) (ps : List Piece) → OfBody f ps → behind_bytes f < 2 ^ 9
few_bytes (Ping token) ps p = omega arith
few_bytes (Data n payload) ps (a, b, p, q, e) = omega (arith, byte_small n a p, q.0)
few_bytes (Pair l r) ps p = omega arith

few : (f : Frame) (ps : List Piece) → OfFrame f ps → behind_bytes f < 2 ^ 9
few f ps (a, b, p, q, e) = few_bytes f b q

-- ---- as bytes
pub write_law : WriteLaw
write_law f ps r p w = laid_once (WritesFrame f) (OfFrame f) (frame_symmetric.written f) r w ps p (in_step (frame_lies f ps p)) (omega (arith, long f ps p, few f ps p))

-- ---- from bytes
-- the rest after whole bytes that are in front
rest_is : (f : Frame) (ps : List Piece) (after bytes : List ℕ) (rest : Bor (List ℕ)) (bits : ℕ) → OfFrame f ps → bytes ≡ laid_out ps ++ after → IsRest bytes (breadth ps) rest bits
    → (rest.now ≡ after) × (bits ≡ 0)
rest_is f ps after bytes rest bits p begins r =
    let w : breadth ps ≡ 8 * (1 + behind_bytes f) = wide f ps p in
    let k : breadth ps / 8 ≡ 1 + behind_bytes f = omega (arith, w) in
    let z : breadth ps % 8 ≡ 0 = omega (arith, w) in
    (r.bytes_behind ∙ ap (λ i. drop i bytes) k ∙ ap (λ x. drop (1 + behind_bytes f) x) begins ∙ drop_front (laid_out ps) after (1 + behind_bytes f) (long f ps p), r.bits_behind ∙ z)

pub read_back_law : ReadLaw
read_back_law f ps after bytes r p begins w =
    let room : breadth ps < 2 ^ 64 = omega (arith, wide f ps p, few f ps p) in
    go r (rest_back OfFrame SameFrame WritesFrame ReadsFrame frame_symmetric bytes r w f ps after p (in_step (frame_lies f ps p)) begins room)
  where
    go : (r : Result ((Bor (List ℕ) × ℕ) × Frame) DekuError) → MatchResult r (λ q. IsRest bytes (breadth ps) q.0.0 q.0.1 × SameFrame f q.1) (λ e. e ≡ Io OutOfMemory)
        → MatchResult r (λ q. SameFrame f q.1 × (q.0.0.now ≡ after) × (q.0.1 ≡ 0)) (λ e. e ≡ Io OutOfMemory)
    go (Ok q) (rest, same) = let is = rest_is f ps after bytes q.0.0 q.0.1 p begins rest in (same, is.0, is.1)
    go (Err e) is = is

-- ---- what is read is what is written
pub rewrite_frame_law : RewriteLaw
rewrite_frame_law bytes p small w =
    let t = rest_taken OfFrame SameFrame WritesFrame ReadsFrame frame_symmetric bytes (Ok p) w in
    let was = t.1 in
    let ps : List Piece = was.taken in
    let k : ℕ = 1 + behind_bytes p.1 in
    let l : breadth ps ≡ 8 * k = wide p.1 ps was.has in
    let n : t.0 ≡ breadth ps = was.width in
    let laid : laid_out ps ≡ _ = whole_bytes_law ps bytes was.rest k (in_step (frame_lies p.1 ps was.has)) small was.takes l in
    let whole : t.0 / 8 ≡ k = omega (arith, n, l) in
    let zero_bits : t.0 % 8 ≡ 0 = omega (arith, n, l) in
    (ps, was.has, take_drop k bytes ∙ ap (λ x. x ++ drop k bytes) (sym laid) ∙ ap (λ x. laid_out ps ++ x) (ap (λ i. drop i bytes) (sym whole) ∙ sym t.2.bytes_behind), t.2.bits_behind ∙ zero_bits)
