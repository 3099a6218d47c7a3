-- Where faults of the kind `Io` come from.
use Rattle.std.proofs.Common.{◌≡◌, ◌⊎◌, ℕ, ◌*◌, List, Option, Some, None, Result, Ok, Err, inl, inr, ⊎_elim, subst}
use Rattle.std.specs.declared.io.ErrorKind.{ErrorKind}
use Rattle.deku_stream.specs.declared.ctx.Order.{Order}
use Rattle.deku_stream.specs.declared.error.DekuError.{DekuError}
use Rattle.deku_stream.specs.declared.error.DekuError.TheVariants.{Io, Incomplete}
use Rattle.deku_device.specs.Devices.{Health, LacksRoom}
use Rattle.deku_stream.specs.Standings.{Standing, Going, Stopped}
use Rattle.deku_stream.specs.Streams.{Stream}
use Rattle.deku_stream.specs.Writers.{Pending, Written, append, finalized}
use Rattle.deku_stream.specs.Outcomes.{Meaning, Outcome, Quiet, Broken, Unknown, UnlessStopped, CountsBits, Reserving, Mapped, Value, Refusal}
use Rattle.deku_reader.specs.ReaderCalls.{Ends, Transfers, TakesBits, ReadsVec, Peeks, Skipping}
use Rattle.deku_writer.specs.WriterCalls.{TookSome, GivesOut, Emits, WritesWord}
use Rattle.deku_bits.specs.Causes.{KeepsIo, NoKind, WantsMemory, WantsPlace, OwnFaults, Caused, CauseLaw}

-- what an outcome of such a meaning says of an `Io`
pub caused : {A V : Type 0} (own : ErrorKind → Type 0) (m : Meaning A V) (s : Standing A) (f : Health) (r : Result V DekuError) (u : Standing A) (g : Health)
    → OwnFaults own m → Outcome m s f r u g → Caused own s f r g
caused own m s f r u g h (Quiet p q) = λ k e. inr (h s r u k p (inl e))
caused own m s f r u g h (Broken a p q) = λ k e. inl q

-- moves that answer an `Io` or stop by one only of these kinds
abbrev OwnMoves : {A V : Type 0} → (ErrorKind → Type 0) → (A → ℕ → Result V DekuError → Standing A → Type 0) → Type 0
OwnMoves {A} {V} own moves = (a : A) (c : ℕ) (r : Result V DekuError) (u : Standing A) (k : ErrorKind) → moves a c r u → (r ≡ Err (Io k)) ⊎ KeepsIo k u → own k

unless_stopped : {A V : Type 0} (leaves : A → A → Type 0) (own : ErrorKind → Type 0) (moves : A → ℕ → Result V DekuError → Standing A → Type 0) → OwnMoves own moves → OwnFaults own (UnlessStopped leaves moves)
unless_stopped leaves own moves h (Going a c) r u k p q = inl (h a c r u k p q)
unless_stopped leaves own moves h (Stopped a e c) r u k p (inl q) = let d = p.0 in inr cc
unless_stopped leaves own moves h (Stopped a e c) r u k p (inr q) = inr (rw p.1 at q)

counted : {A V : Type 0} (own : ErrorKind → Type 0) (n : ℕ) (moves : A → ℕ → Result V DekuError → Standing A → Type 0) → OwnMoves own moves → OwnMoves own (CountsBits n moves)
counted own n moves h a c r u k (inl p) (inl q) = let d = p.1.2 in absurd cc
counted own n moves h a c r u k (inl p) (inr q) = absurd (rw p.1.3 at q)
counted own n moves h a c r u k (inr p) q = h a c r u k p.1 q

ends : {V : Type 0} (own : ErrorKind → Type 0) (n c : ℕ) (r : Result V DekuError) (u : Standing (Option Stream)) (k : ErrorKind) → Ends n c r u → (r ≡ Err (Io k)) ⊎ KeepsIo k u → own k
ends own n c r u k p (inl q) = let d = p.0 in absurd cc
ends own n c r u k p (inr q) = let d : Incomplete (record { bits = n }) ≡ Io k = rw p.2 at q in absurd cc

-- a value was returned, and it goes on
goes_on : {A V : Type 0} (v : V) (a : A) (c : ℕ) (r : Result V DekuError) (u : Standing A) (k : ErrorKind) (own : ErrorKind → Type 0)
    → r ≡ Ok v → u ≡ Going a c → (r ≡ Err (Io k)) ⊎ KeepsIo k u → own k
goes_on v a c r u k own d e (inl q) = absurd cc
goes_on v a c r u k own d e (inr q) = absurd (rw e at q)

transfers : (own : ErrorKind → Type 0) (o : Order) (n : ℕ) → OwnMoves own (Transfers o n)
transfers own o n (Some S) c r u k (inl p) q = goes_on _ _ _ r u k own p.1 p.2 q
transfers own o n (Some S) c r u k (inr p) q = ends own n c r u k p.1 q
transfers own o n None c r u k (inl p) q = goes_on _ _ _ r u k own p.3 p.4 q
transfers own o n None c r u k (inr p) q = ends own n c r u k p q

reserving : {A V : Type 0} (moves : A → ℕ → Result V DekuError → Standing A → Type 0) → OwnMoves WantsMemory moves → OwnMoves WantsMemory (Reserving moves)
reserving moves h a c r u k (inl p) (inl q) = let d = p.0 in cc
reserving moves h a c r u k (inl p) (inr q) = absurd (rw p.1 at q)
reserving moves h a c r u k (inr p) q = h a c r u k p q

pub mapped : {A V W : Type 0} (own : ErrorKind → Type 0) (h : V → W) (m : Meaning A V) → OwnFaults own m → OwnFaults own (Mapped h m)
mapped own h m f s r u k (Value v p e) (inl q) = absurd cc
mapped own h m f s r u k (Value v p e) (inr q) = f s (Ok v) u k p (inr q)
mapped own h m f s r u k (Refusal x p e) (inl q) = f s (Err x) u k p (inl cc)
mapped own h m f s r u k (Refusal x p e) (inr q) = f s (Err x) u k p (inr q)

takes : (o : Order) (n : ℕ) → OwnFaults NoKind (TakesBits o n)
takes o n = unless_stopped Unknown NoKind _ (counted NoKind n (Transfers o n) (transfers NoKind o n))

vecs : (o : Order) (n : ℕ) → OwnFaults WantsMemory (ReadsVec o n)
vecs o n = mapped WantsMemory _ _ (unless_stopped Unknown WantsMemory _ (counted WantsMemory n _ (reserving _ (transfers WantsMemory o n))))

peeks : (own : ErrorKind → Type 0) → OwnMoves own Peeks
peeks own (Some S) c r u k p q = ⊎_elim (λ h. goes_on _ _ _ r u k own h.1 p.1 q) (λ h. goes_on _ _ _ r u k own h.1 p.1 q) p.0
peeks own None c r u k p q = goes_on _ _ _ r u k own p.2 p.3 q

skipping : (own : ErrorKind → Type 0) (o : Order) (n : ℕ) → OwnMoves own (Skipping o n)
skipping own o n (Some S) c r u k (inl p) q = goes_on _ _ _ r u k own p.1 p.2 q
skipping own o n (Some S) c r u k (inr p) q = ends own _ c r u k p.1 q
skipping own o n None c r u k (inl p) q = goes_on _ _ _ r u k own p.1 p.2 q
skipping own o n None c r u k (inr p) q = ends own _ c r u k p.4 q

-- ---- writing
room : (r : Option (List ℕ)) (n : ℕ) (k : ErrorKind) → LacksRoom r n k → WantsPlace k
room None n k p = inl p
room (Some r) n k p = inr p.0

gives_out : (w : Written) → OwnMoves WantsPlace (GivesOut w)
gives_out w out c r u k (inl p) q = goes_on _ _ _ r u k WantsPlace p.2 p.3 q
gives_out w out c r u k (inr p) (inl q) = let d = p.3 in let e : p.0 ≡ k = cc in subst WantsPlace e (room out.room _ p.0 p.2)
gives_out w out c r u k (inr p) (inr q) = let d : Io p.0 ≡ Io k = rw p.6 at q in let e : p.0 ≡ k = cc in subst WantsPlace e (room out.room _ p.0 p.2)

emits : (write : Pending → Written) → OwnFaults WantsPlace (Emits write)
emits write = unless_stopped (λ out. TookSome (write out.pending).bytes out) WantsPlace _ (λ out. counted WantsPlace _ (GivesOut (write out.pending)) (gives_out (write out.pending)) out)

words : (o : Order) (n word : ℕ) → OwnFaults WantsPlace (WritesWord o n word)
words o n word s r u k p q = emits (append o _) s r u k p.3 q

pub cause_law : CauseLaw
cause_law = (
  λ o n. (
    takes o n,
    mapped NoKind _ _ (takes o n),
    vecs o n,
    mapped NoKind _ _ (mapped NoKind _ _ (takes o (8 * n))),
    mapped NoKind _ _ (takes o n),
    unless_stopped Unknown NoKind _ (counted NoKind n _ (skipping NoKind o n)),
    mapped WantsMemory _ _ (vecs o (8 * n)),
  ),
  unless_stopped Unknown NoKind _ (peeks NoKind),
  λ o bits. emits (append o bits),
  words,
  emits finalized,
)

-- what has none of its own has none but these
pub wider : {A V : Type 0} (own : ErrorKind → Type 0) (m : Meaning A V) → OwnFaults NoKind m → OwnFaults own m
wider own m f s r u k p q = ⊎_elim (λ o. absurd o) (λ kept. inr kept) (f s r u k p q)
