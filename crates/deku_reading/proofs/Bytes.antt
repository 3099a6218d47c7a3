-- Bytes that are read into a vector.
use Rattle.std.proofs.Common.{ℕ, ◌*◌, Option, Result, Ok, Err, refl}
use Rattle.std.specs.Global.{Vec}
use Rattle.deku_bits.specs.declared.ctx.Order.{Order}
use Rattle.deku_bits.specs.declared.error.DekuError.{DekuError}
use Rattle.deku_bits.specs.Bits.{bytes_of}
use Rattle.deku_bits.specs.Streams.{Stream}
use Rattle.deku_bits.specs.Devices.{Health}
use Rattle.deku_bits.specs.Standings.{Standing}
use Rattle.deku_bits.specs.Outcomes.{Outcome, Mapped}
use Rattle.deku_bits.specs.ReaderCalls.{ReadsVec, ReadsByteVec, items_of}
use Rattle.deku_reading.specs.Lists.{Seen}
use Rattle.deku_reading.proofs.Slots.{seen_ok, seen_err}

-- what was read is seen in the vector
pub bytes_seen : (o : Order) (n : ℕ) (r : Result (Vec ℕ) DekuError) {s : Standing (Option Stream)} {f : Health} {u : Standing (Option Stream)} {g : Health}
    → Outcome (ReadsByteVec o n) s f (items_of r) u g → Outcome (Seen (λ v. v.items) (Mapped bytes_of (ReadsVec o (8 * n)))) s f r u g
bytes_seen o n (Ok v) p = seen_ok (λ v. v.items) refl p
bytes_seen o n (Err e) p = seen_err (λ v. v.items) p
