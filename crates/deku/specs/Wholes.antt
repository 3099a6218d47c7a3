-- Whole inputs and whole outputs: calls that make a reader or a writer of their own.
use Rattle.std.specs.Prelude.{◌≡◌, ◌⊎◌, ℕ, ◌/◌, ◌%◌, ◌<◌, ◌≤◌, Bool, false, List, [], ◌++◌, length, drop, Option, None, Some, Result, Ok, Err, IfOk, IfSome}
use Rattle.std.specs.Borrow.{Bor}
use Rattle.std.specs.Global.{Vec}
use Rattle.std.specs.declared.io.ErrorKind.TheVariants.{OutOfMemory}
use Rattle.deku_bits.specs.declared.ctx.Order.TheVariants.{Msb0}
use Rattle.deku_bits.specs.declared.error.DekuError.{DekuError}
use Rattle.deku_bits.specs.declared.error.DekuError.TheVariants.{Incomplete, Io}
use Rattle.deku_bits.specs.Bits.{bits_in, groups}
use Rattle.deku_bits.specs.Streams.{Stream, fresh}
use Rattle.deku_bits.specs.Writers.{Nothing, pending_bits}
use Rattle.deku_bits.specs.Devices.{KnownSource, bytes_before}
use Rattle.deku_bits.specs.Standings.{Standing, Going, Stopped, Output, count_of}
use Rattle.deku_bits.specs.Outcomes.{Meaning}
use Rattle.deku_bits.specs.ReaderCalls.{ReadsAt, Skips}
use Rattle.deku_meanings.specs.Composing.{Then}
use Rattle.deku_reading.specs.Lists.{on_value}

-- ---- reading
-- n bits are skipped in `Msb0`, and then m.
abbrev pub Behind : {V : Type 0} → ℕ → Meaning (Option Stream) V → Meaning (Option Stream) V
Behind n m = Then (Skips Msb0 n) (λ _. m)

-- A reader that is made for one call does m, and its count is returned with the value. What is
-- known of the source after the call is what that reader leaves.
pub record ReadsOnce {R V : Type 0} (known : R → KnownSource) (m : Meaning (Option Stream) V) (old : R) (r : Result (ℕ × V) DekuError) (new : R) : Type 0 where
  pub stands : Standing (List Bool)
  pub reads : ReadsAt m (known old) (Going [] 0) (on_value (λ p. p.1) r) (known new) stands
  pub counts : IfOk r (λ p. p.0 ≡ count_of stands)

-- If the bytes of a source were known, those after the ones that n bits fill are known after the
-- call.
abbrev pub TellsBehind : ℕ → KnownSource → KnownSource → Type 0
TellsBehind n old new = IfSome old.remaining (λ bytes. new.remaining ≡ Some (drop (groups n) bytes))

-- The outcome of m on bytes of which nothing is read yet.
abbrev pub FromFirst : {V : Type 0} → Meaning (Option Stream) V → List ℕ → Result V DekuError → Standing (Option Stream) → Type 0
FromFirst m bytes r u = m false (Going (Some (fresh bytes)) 0) r u

-- The rest of the bytes after n bits: the bytes after the whole ones, and how many bits of the
-- first of these are read. There are as many whole bytes.
pub record IsRest (bytes : List ℕ) (n : ℕ) (rest : Bor (List ℕ)) (bits : ℕ) : Type 0 where
  pub within : n / 8 ≤ length bytes
  pub bytes_behind : rest.now ≡ drop (n / 8) bytes
  pub bits_behind : bits ≡ n % 8

-- m is done on bytes. The result is the rest of them and the value; or the error, also if more
-- bytes were skipped than there are.
abbrev pub ReadsBytesOnce : {V : Type 0} → Meaning (Option Stream) V → List ℕ → Result ((Bor (List ℕ) × ℕ) × V) DekuError → Type 0
ReadsBytesOnce m bytes (Ok p) = (u : Standing (Option Stream)) × FromFirst m bytes (Ok p.1) u × IsRest bytes (count_of u) p.0.0 p.0.1
ReadsBytesOnce {V} m bytes (Err e) = ((u : Standing (Option Stream)) × FromFirst m bytes (Err e) u)
    ⊎ ((v : V) × (u : Standing (Option Stream)) × FromFirst m bytes (Ok v) u × (length bytes < count_of u / 8) × (e ≡ Incomplete (record { bits = count_of u })))

-- ---- writing
-- Nothing is written yet, to memory that grows.
abbrev pub in_memory : Output
in_memory = record { taken = Some []; room = None; pending = Nothing }

-- Nothing is written yet, over these bytes.
abbrev pub over : List ℕ → Output
over bytes = record { taken = Some []; room = Some bytes; pending = Nothing }

-- The outcome of m, from nothing written, to memory that grows: the bytes that were taken, if they
-- are known.
abbrev pub WritesOnce : Meaning Output (Unit {0}) → Result (Vec ℕ) DekuError → Type 0
WritesOnce m (Ok v) = (out : Output) × (c : ℕ) × m false (Going in_memory 0) (Ok tt) (Going out c) × IfSome out.taken (λ bytes. v.items ≡ bytes)
WritesOnce m (Err e) = (u : Standing Output) × m false (Going in_memory 0) (Err e) u

-- What a writer continues with, or has stopped with.
abbrev pub output_in : Standing Output → Output
output_in (Going out c) = out
output_in (Stopped out e c) = out

-- The outcome of m, from nothing written, over a slice: how many bytes were taken. The slice begins
-- with these bytes, and the bytes of its room follow them. The same holds if m fails.
abbrev pub WritesOver : Meaning Output (Unit {0}) → List ℕ → Result ℕ DekuError → List ℕ → Type 0
WritesOver m old (Ok n) new = (out : Output) × (c : ℕ) × m false (Going (over old) 0) (Ok tt) (Going out c) × (out.taken ≡ bytes_before n new) × (out.room ≡ Some (drop n new))
WritesOver m old (Err e) new = (u : Standing Output) × m false (Going (over old) 0) (Err e) u
    × (n : ℕ) × ((output_in u).taken ≡ bytes_before n new) × ((output_in u).room ≡ Some (drop n new))

-- The bits that m gives, from nothing written: those of the bytes taken, if they are known, and the
-- pending ones. Otherwise the error of m, an error that m only kept, or out of memory.
abbrev pub WritesBare : Meaning Output (Unit {0}) → Result (Vec Bool) DekuError → Type 0
WritesBare m (Ok v) = (out : Output) × (c : ℕ) × m false (Going in_memory 0) (Ok tt) (Going out c)
    × IfSome out.taken (λ bytes. v.items ≡ bits_in bytes ++ pending_bits out.pending)
WritesBare m (Err e) = ((u : Standing Output) × m false (Going in_memory 0) (Err e) u)
    ⊎ ((left : Output) × (c : ℕ) × m false (Going in_memory 0) (Ok tt) (Stopped left e c))
    ⊎ ((out : Output) × (c : ℕ) × m false (Going in_memory 0) (Ok tt) (Going out c) × (e ≡ Io OutOfMemory))
