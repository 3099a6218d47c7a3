-- Frames as their constructors make them have pieces.
use Rattle.std.proofs.Common.{◌≡◌, ℕ, ◌<◌, ◌^◌, List, length, All, Ok, refl, sym, subst, inl, inr, arith}
use Rattle.std.specs.Global.{Vec}
use Rattle.deku_bits.specs.Pieces.{Piece}
use Rattle.deku_num.specs.declared.ctx.Size.TheVariants.{Whole, Bits}
use Rattle.deku_num.specs.Numbers.{byte, unsigned}
use Rattle.deku_pieces.specs.Pieces.{OfUnsigned, OfEach, OfTimes, InTurn, high_first}
use Rattle.deku_pieces.proofs.HighFirst.{Has, byte_has, unsigned_has, turns_have, each_has}
use Rattle.deku_frame.specs.declared.frame.Frame.{Frame}
use Rattle.deku_frame.specs.declared.frame.Frame.TheVariants.{Ping, Data, Pair}
use Rattle.deku_frame.specs.Frames.{id_of, head_of, OfHead, OfBody, OfFrame}
use Rattle.deku_frame.specs.FramePromise.{UpdateLaw}

frame_has : (f : Frame) → id_of f < 16 → Has (OfBody f) → Has (OfFrame f)
frame_has f small body =
    turns_have {P = OfHead (head_of f)} {Q = OfBody f}
    (turns_have {P = OfUnsigned byte (high_first (Bits 4)) (id_of f)} {Q = OfUnsigned byte (high_first (Bits 4)) 1}
    (byte_has (Bits 4) (id_of f) (omega arith) small) (byte_has (Bits 4) 1 (omega arith) (omega arith)))
    body

pub ping_has : (token : ℕ) → token < 2 ^ 16 → Has (OfFrame (Ping token))
ping_has token small = frame_has (Ping token) (omega arith) (unsigned_has 16 Whole token (omega arith) small)

bytes_have : (vs : List ℕ) → All (λ b. b < 256) vs → Has (OfEach (OfUnsigned byte (high_first Whole)) vs)
bytes_have vs all = each_has (OfUnsigned byte (high_first Whole)) (λ b. b < 256) (λ b small. byte_has Whole b (omega arith) small) vs all

pub data_has : (v : Vec ℕ) → length v.items < 2 ^ 8 → All (λ b. b < 256) v.items → Has (OfFrame (Data (length v.items) v))
data_has v small all =
    let k = bytes_have v.items all in
    frame_has (Data (length v.items) v) (omega arith)
    (turns_have {P = OfUnsigned byte (high_first Whole) (length v.items)} {Q = OfTimes (length v.items) (OfUnsigned byte (high_first Whole)) v.items}
    (byte_has Whole (length v.items) (omega arith) small) (k.0, (refl, k.1)))

pub pair_has : (l r : ℕ) → l < 2 ^ 5 → r < 2 ^ 11 → Has (OfFrame (Pair l r))
pair_has l r a b =
    frame_has (Pair l r) (omega arith)
    (turns_have {P = OfUnsigned byte (high_first (Bits 5)) l} {Q = OfUnsigned (unsigned 16) (high_first (Bits 11)) r}
    (byte_has (Bits 5) l (omega arith) a) (unsigned_has 16 (Bits 11) r (omega arith) b))

pub update_law : UpdateLaw
update_law n v f all (inl (small, ok, is)) = subst (λ x. Has (OfFrame x)) (sym is) (data_has v small all)
update_law n v f all (inr (large, (e, is, known), same)) = absurd (cc)
