-- What reading and then writing promises, of any bytes.
use Rattle.std.specs.Prelude.{◌≡◌, ℕ, ◌-◌, ◌*◌, ◌<◌, ◌^◌, List, ◌++◌, length, map, take, IfOk, Result}
use Rattle.std.specs.Global.{Vec}
use Rattle.deku_bits.specs.declared.error.DekuError.{DekuError}
use Rattle.deku_bits.specs.declared.ctx.Order.TheVariants.{Msb0}
use Rattle.deku_bits.specs.Streams.{Stream, fresh}
use Rattle.deku_bits.specs.Pieces.{Piece, laid_out, cleared, last_order}
use Rattle.deku_fields.specs.declared.list.Number.{Number}
use Rattle.deku_fields.specs.declared.list.Field.{Field}
use Rattle.deku_fields.specs.declared.frame.Frame.{Frame}
use Rattle.deku_fields.specs.Frames.{OfFrame}
use Rattle.deku_fields.specs.Items.{AlignedFields, ReadsValues, field_shape}

-- These bytes are those that the fields took from others, with the unread bits zero.
pub record AreTaken (fs : List Field) (bytes out : List ℕ) : Type 0 where
  pub values : List Number
  pub rest : Stream
  pub read : ReadsValues fs (fresh bytes) values rest
  pub same : out ≡ cleared (last_order Msb0 (map field_shape fs)) (length rest.window) (take (length bytes - length rest.bytes) bytes)

-- These bytes are those of a frame, and the others begin with them.
pub record IsFrameOf (bytes out : List ℕ) : Type 0 where
  pub frame : Frame
  pub pieces : List Piece
  pub lies : OfFrame frame pieces
  pub same : out ≡ laid_out pieces
  pub after : List ℕ
  pub front : bytes ≡ out ++ after

-- For fields whose orders change only at byte boundaries, and bytes whose bits can be counted: what
-- was read and written is the bytes that were taken.
abbrev pub WritesTaken : List Field → List ℕ → Result (Vec ℕ) DekuError → Type 0
WritesTaken fs bytes r = AlignedFields fs → 8 * length bytes < 2 ^ 64 → IfOk r (λ v. AreTaken fs bytes v.items)
