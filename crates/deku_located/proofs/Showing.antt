-- Records of the parts that were read.
use Rattle.std.proofs.Common.{◌≡◌, ℕ, List, Option, Ok, Err, refl}
use Rattle.deku_bits.specs.declared.error.DekuError.{DekuError}
use Rattle.deku_bits.specs.Streams.{Stream}
use Rattle.deku_bits.specs.Outcomes.{Meaning}
use Rattle.deku.specs.Composing.{Then, Second, First}
use Rattle.deku.specs.Shapes.{Shows, Shown}
use Rattle.deku_pieces.specs.Packs.{Unpacks}

-- the record of parts that were read
pub shown_read : {V W : Type 0} (h : W → V) (m : Meaning (Option Stream) V) (bytes : List ℕ) (n : ℕ) (v : V) (w : W) → h w ≡ v → Unpacks m bytes (Ok (n, v)) → Unpacks (Then m (Shows h)) bytes (Ok (n, w))
shown_read h m bytes n v w e (u, first, count) = (u, Second v u first (Shown e), count)

-- parts that were refused
pub shown_refused : {V W : Type 0} (h : W → V) (m : Meaning (Option Stream) V) (bytes : List ℕ) (e : DekuError) → Unpacks m bytes (Err e) → Unpacks {V = W} (Then m (Shows h)) bytes (Err e)
shown_refused h m bytes e (u, first) = (u, First e first refl)
