-- Bytes that are read as bits.
use Rattle.std.proofs.Common.{◌≡◌, ◌≢◌, ◌⊎◌, ℕ, ◌+◌, ◌*◌, ◌^◌, ◌<◌, ◌≤◌, Bool, false, List, length, Option, Result, Ok, Err, All, arith, ap, ◌∙◌, subst}
use Rattle.std.specs.declared.io.ErrorKind.{ErrorKind}
use Rattle.std.specs.declared.io.ErrorKind.TheVariants.{UnexpectedEof}
use Rattle.deku_stream.specs.declared.ctx.Order.{Order}
use Rattle.deku_stream.specs.declared.error.DekuError.{DekuError}
use Rattle.deku_stream.specs.declared.error.Fault.{Fault}
use Rattle.deku_stream.specs.declared.error.Fault.TheVariants as fault
use Rattle.deku_stream.specs.Bits.{bytes_of, shown}
use Rattle.deku_stream.specs.Streams.{Stream, flow}
use Rattle.deku_device.specs.Devices.{Health, DeviceKept, DeviceFailed}
use Rattle.deku_stream.specs.Standings.{Standing, Going, Stopped, stream_of}
use Rattle.deku_stream.specs.Outcomes.{Outcome, Quiet, Broken, Value, Refusal}
use Rattle.deku_stream.specs.Faults.{error_of}
use Rattle.deku_stream.specs.Moving.{Moves, FewerBits}
use Rattle.deku_reader.specs.ReaderCalls.{Transfers, TakesBits, ReadsBytes, ReadsByteVec}
use Rattle.deku_stream.proofs.Cuts.{length-flow}
use Rattle.deku_stream.proofs.Handing.{mapped_ok, mapped_err, mapped_memory_found}
use Rattle.deku_reader.proofs.Moving.{takes_ok, takes_err}
use Rattle.deku_stream.proofs.Bytes.{IsByte, shown-flow, bytes_of-bits_in}

-- ---- what a read of bytes returns
-- bytes were taken
pub bytes_ok : (o : Order) (w : List Bool) (t : Option (List ℕ)) (c n : ℕ) (bs : List ℕ) (v : List Bool) (u : Option (List ℕ)) (f g : Health)
    → length bs ≡ n → length w ≤ 8 → c + 8 * n < 2 ^ 64 → Moves o w t (flow o bs) v u → (0 < length bs → length v < 8) → (length bs ≡ 0 → (v ≡ w) × (u ≡ t)) → All IsByte bs
    → DeviceKept f g → Outcome (ReadsBytes o n) (Going (stream_of w t) c) f (Ok bs) (Going (stream_of v u) (c + 8 * n)) g
bytes_ok o w t c n bs v u f g len l room moved short none all kept =
    let bits : List Bool = flow o bs in
    let wide : length bits ≡ 8 * n = length-flow o bs ∙ ap (λ k. 8 * k) len in
    let taken = takes_ok o w t c (8 * n) bits v u wide l room moved (λ p. short (omega (arith, wide, len))) (λ z. none (omega (arith, wide, len))) in
    let same : bytes_of (shown o bits) ≡ bs = ap bytes_of (shown-flow o bs) ∙ bytes_of-bits_in bs all in
    let counted = subst (λ k. TakesBits o (8 * n) false (Going (stream_of w t) c) (Ok bits) (Going (stream_of v u) (c + k))) wide taken in
    subst (λ xs. Outcome (ReadsBytes o n) (Going (stream_of w t) c) f (Ok xs) (Going (stream_of v u) (c + 8 * n)) g) same
    (mapped_ok bytes_of (mapped_ok (shown o) (Quiet counted kept)))

-- a transfer failed
pub bytes_err : {after : Option Stream} (o : Order) (w : List Bool) (t : Option (List ℕ)) (c n : ℕ) (f g : Health) (kind : ErrorKind) (stop : Fault)
    → ((kind ≡ UnexpectedEof) × (stop ≡ fault.Incomplete (record { bits = 8 * n }))) ⊎ ((kind ≢ UnexpectedEof) × (stop ≡ fault.Io kind))
    → c + 8 * n < 2 ^ 64 → (kind ≡ UnexpectedEof → FewerBits (8 * n) w t) → (kind ≢ UnexpectedEof → DeviceFailed f g) → DeviceKept f g
    → Outcome (ReadsBytes o n) (Going (stream_of w t) c) f (Err (error_of stop)) (Stopped after (error_of stop) c) g
bytes_err o w t c n f g kind stop cause room ended failed kept =
    mapped_err bytes_of (mapped_err (shown o) (takes_err o w t c (8 * n) f g kind stop cause room ended failed kept))

-- memory was found first
pub bytes_found : (o : Order) (n : ℕ) {s : Standing (Option Stream)} {f : Health} {r : Result (List ℕ) DekuError} {u : Standing (Option Stream)} {g : Health}
    → Outcome (ReadsBytes o n) s f r u g → Outcome (ReadsByteVec o n) s f r u g
bytes_found o n (Quiet (Value v p e) q) = Quiet (Value v (mapped_memory_found (shown o) (Transfers o (8 * n)) (8 * n) _ _ _ _ p) e) q
bytes_found o n (Quiet (Refusal x p e) q) = Quiet (Refusal x (mapped_memory_found (shown o) (Transfers o (8 * n)) (8 * n) _ _ _ _ p) e) q
bytes_found o n (Broken a (Value v p e) q) = Broken a (Value v (mapped_memory_found (shown o) (Transfers o (8 * n)) (8 * n) _ _ _ _ p) e) q
bytes_found o n (Broken a (Refusal x p e) q) = Broken a (Refusal x (mapped_memory_found (shown o) (Transfers o (8 * n)) (8 * n) _ _ _ _ p) e) q
