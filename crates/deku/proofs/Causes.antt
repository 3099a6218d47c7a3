-- Where faults of the kind `Io` come from in what is made of other calls.
use Rattle.std.proofs.Common.{◌≡◌, ◌⊎◌, ℕ, zero, suc, Bool, true, List, [], ◌∷◌, Option, Result, Ok, Err, ℤ, refl, ap, sym, ◌∙◌, inl, inr, ⊎_elim, subst}
use Rattle.std.specs.Borrow.{Bor}
use Rattle.std.specs.declared.io.ErrorKind.{ErrorKind}
use Rattle.std.specs.declared.io.ErrorKind.TheVariants.{OutOfMemory}
use Rattle.deku_bits.specs.declared.error.DekuError.{DekuError}
use Rattle.deku_bits.specs.declared.error.DekuError.TheVariants.{Io, Parse, InvalidParam}
use Rattle.deku_bits.specs.Streams.{Stream}
use Rattle.deku_bits.specs.Standings.{Standing, Output}
use Rattle.deku_bits.specs.Bits.{bytes_of}
use Rattle.deku_bits.specs.Outcomes.{Meaning, Refuses, Mapped}
use Rattle.deku_bits.specs.ReaderCalls.{TakesBits, ReadsVec, Ending, Skips}
use Rattle.deku_bits.specs.Causes.{KeepsIo, NoKind, WantsMemory, WantsPlace, OwnFaults}
use Rattle.deku_bits.proofs.Causes.{mapped, wider, caused, cause_law}
use Rattle.deku_num.specs.declared.ctx.Layout.{Layout}
use Rattle.deku_num.specs.declared.kind.NumberType.{NumberType}
use Rattle.deku_num.specs.NumberCalls.{Checked, Refused, Passed, RefusesLayout, ReadsNumber, ReadsUnsigned, WritesNumber, integers}
use Rattle.deku_meanings.specs.declared.ctx.Limit.{Limit}
use Rattle.deku_meanings.specs.declared.ctx.Limit.TheVariants.{Count, Until, ByteSize, BitSize, End}
use Rattle.deku_meanings.specs.Composing.{Answer, Answered, Then, Second, First, Both, JoinedBy}
use Rattle.deku_meanings.specs.Shapes.{Shows, Shown, ShowsUnless, LacksMemory}
use Rattle.deku_reading.specs.Lists.{ReadsTimes, Seen, AnswersEach, Runs, Until, NextRefused, Stored}
use Rattle.deku_reading.specs.Limits.{Taken, TakesEach, Judge, Judged, EndsWith, Closes, ItemRefused, WithoutWidth, Unplaced, ReadsUntil, ReadsBitsOf, NoBits, SomeBits, MoreToCome, ReadsToEnd, ReadsCount, ReadsUnder, MappedBy, ValueBy, RefusalBy}
use Rattle.deku_writing.specs.Composing.{WritesEach}
use Rattle.deku_bits.specs.declared.ctx.Order.{Order}
use Rattle.deku_bits.specs.declared.ctx.Order.TheVariants.{Msb0}
use Rattle.deku_bits.specs.Devices.{KnownSource, DeviceFailed}
use Rattle.deku_num.specs.declared.ctx.Endian.TheVariants.{Little}
use Rattle.deku_num.specs.declared.ctx.Size.TheVariants.{Whole}
use Rattle.deku_num.specs.Numbers.{byte}
use Rattle.deku_bits.specs.WriterCalls.{Finalizes}
use Rattle.deku.specs.Texts.{Unended, Text, NoText, ReadsByte, ReadsTerminated, ReadsWithin}
use Rattle.deku.specs.Wholes.{Behind, ReadsOnce, ReadsBytesOnce, WritesOnce, WritesOver, WritesBare}

-- ---- one after the other
pub answer : {A V : Type 0} (own : ErrorKind → Type 0) (v : V) → OwnFaults {A = A} own (Answer v)
answer own v s r u k Answered (inl q) = absurd cc
answer own v s r u k Answered (inr q) = inr q

pub then : {A V W : Type 0} (own : ErrorKind → Type 0) (m : Meaning A V) (n : V → Meaning A W) → OwnFaults own m → ((v : V) → OwnFaults own (n v)) → OwnFaults own (Then m n)
then own m n f g s r u k (Second v t p q) x = ⊎_elim (λ o. inl o) (λ kept. f s (Ok v) t k p (inr kept)) (g v t r u k q x)
then own m n f g s r u k (First e p d) (inl q) = f s (Err e) u k p (inl cc)
then own m n f g s r u k (First e p d) (inr q) = f s (Err e) u k p (inr q)

pub joined : {A V W X : Type 0} (own : ErrorKind → Type 0) (h : V → W → X) (m : Meaning A V) (n : Meaning A W) → OwnFaults own m → OwnFaults own n → OwnFaults own (JoinedBy h m n)
joined own h m n f g = then own m _ f (λ v. then own n _ g (λ w. answer own (h v w)))

pub times : {A V : Type 0} (own : ErrorKind → Type 0) (n : ℕ) (m : Meaning A V) → OwnFaults own m → OwnFaults own (ReadsTimes n m)
times own zero m f = answer own []
times own (suc n) m f = then own m _ f (λ v. mapped own (λ vs. v ∷ vs) (ReadsTimes n m) (times own n m f))

pub each : {A V : Type 0} (own : ErrorKind → Type 0) (m : V → Meaning A (Unit {0})) (vs : List V) → ((v : V) → OwnFaults own (m v)) → OwnFaults own (WritesEach m vs)
each own m [] f = answer own tt
each own m (v ∷ vs) f = then own (m v) _ (f v) (λ _. each own m vs f)

pub seen : {A V W : Type 0} (own : ErrorKind → Type 0) (h : V → W) (m : Meaning A W) → OwnFaults own m → OwnFaults own (Seen h m)
seen own h m f s (Ok v) u k p (inl q) = absurd cc
seen own h m f s (Err e) u k p (inl q) = f s (Err e) u k p (inl cc)
seen own h m f s (Ok v) u k p (inr q) = f s (Ok (h v)) u k p (inr q)
seen own h m f s (Err e) u k p (inr q) = f s (Err e) u k p (inr q)

pub held : {A V W : Type 0} (own : ErrorKind → Type 0) (h : V → W → Type 0) (m : Meaning A V) → OwnFaults own m → OwnFaults own (MappedBy h m)
held own h m f s r u k (ValueBy v w p x d) (inl q) = absurd cc
held own h m f s r u k (ValueBy v w p x d) (inr q) = f s (Ok v) u k p (inr q)
held own h m f s r u k (RefusalBy e p d) (inl q) = f s (Err e) u k p (inl cc)
held own h m f s r u k (RefusalBy e p d) (inr q) = f s (Err e) u k p (inr q)

-- ---- checks
pub checked : {A V : Type 0} (own : ErrorKind → Type 0) (refuses : Standing A → Result V DekuError → Standing A → Type 0) (m : Meaning A V)
    → ((s : Standing A) (r : Result V DekuError) (u : Standing A) (k : ErrorKind) → refuses s r u → (r ≡ Err (Io k)) ⊎ KeepsIo k u → own k ⊎ KeepsIo k s)
    → OwnFaults own m → OwnFaults own (Checked refuses m)
checked own refuses m h f s r u k (Refused b p) q = h s r u k p q
checked own refuses m h f s r u k (Passed p) q = f s r u k p q

-- no memory is found
lacking : {A V : Type 0} (s : Standing A) (r : Result V DekuError) (u : Standing A) (k : ErrorKind) → LacksMemory s r u → (r ≡ Err (Io k)) ⊎ KeepsIo k u → WantsMemory k ⊎ KeepsIo k s
lacking s r u k p (inl q) = let d = p.0 in let e : OutOfMemory ≡ k = cc in inl (sym e)
lacking s r u k p (inr q) = inr (rw p.1 at q)

-- a refusal with a text, of another kind
pub texted : {A V : Type 0} (refusal : Bor (List ℕ) → DekuError) (text : List ℕ) → ((w : Bor (List ℕ)) (k : ErrorKind) → refusal w ≡ Io k → ⊥)
    → (s : Standing A) (r : Result V DekuError) (u : Standing A) (k : ErrorKind) → Refuses refusal text s r u → (r ≡ Err (Io k)) ⊎ KeepsIo k u → KeepsIo k s
texted refusal text h s r u k p (inl q) = let d = p.2 in absurd (h p.0 k cc)
texted refusal text h s r u k p (inr q) = rw p.3 at q

no_parse : (w : Bor (List ℕ)) (k : ErrorKind) → Parse w ≡ Io k → ⊥
no_parse w k e = cc

pub no_param : (w : Bor (List ℕ)) (k : ErrorKind) → InvalidParam w ≡ Io k → ⊥
no_param w k e = cc

layout : {A V : Type 0} (own : ErrorKind → Type 0) (refusal : Bor (List ℕ) → DekuError) (text : List ℕ) (t : NumberType) (l : Layout) → ((w : Bor (List ℕ)) (k : ErrorKind) → refusal w ≡ Io k → ⊥)
    → (s : Standing A) (r : Result V DekuError) (u : Standing A) (k : ErrorKind) → RefusesLayout refusal text t l s r u → (r ≡ Err (Io k)) ⊎ KeepsIo k u → own k ⊎ KeepsIo k s
layout own refusal text t l h s r u k (e, inl p, is, stays) q = inr (texted refusal text h s r u k (p.1.words, p.1.says, is ∙ ap Err p.1.is, stays) q)
layout own refusal text t l h s r u k (e, inr p, is, stays) q = inr (texted InvalidParam _ no_param s r u k (p.2.words, p.2.says, is ∙ ap Err p.2.is, stays) q)

-- ---- numbers
pub reads_number : (t : NumberType) (l : Layout) → OwnFaults NoKind (ReadsNumber t l)
reads_number t l = checked NoKind _ _ (layout NoKind Parse _ t l no_parse)
    (λ s r u k p q. mapped NoKind _ (TakesBits _ _) ((cause_law.0 _ _).0) s r u k p.1 q)

pub writes_number : (t : NumberType) (l : Layout) (v : ℤ) → OwnFaults WantsPlace (WritesNumber t l v)
writes_number t l v = checked WantsPlace _ _ (layout WantsPlace InvalidParam _ t l no_param)
    (checked WantsPlace _ _ (λ s r u k p q. inr (texted InvalidParam _ no_param s r u k p.2 q)) (λ s r u k p q. cause_law.2 _ _ s r u k p.1.2 q))

-- ---- lists that end by a limit
in_turn : {A V : Type 0} (own : ErrorKind → Type 0) (m : Meaning A V) → OwnFaults own m → (vs : List V) (s u : Standing A) (k : ErrorKind) → AnswersEach m vs s u → KeepsIo k u → own k ⊎ KeepsIo k s
in_turn own m f [] s u k p q = inr (rw p at q)
in_turn own m f (v ∷ vs) s u k p q = ⊎_elim (λ o. inl o) (λ kept. f s (Ok v) p.0 k p.1 (inr kept)) (in_turn own m f vs p.0 u k p.2 q)

pub runs : {A V : Type 0} (own : ErrorKind → Type 0) (goes ends : List V → Type 0) (m : Meaning A V) → OwnFaults own m → OwnFaults own (Runs goes ends m)
runs own goes ends m f s r u k (Until vs p e b d) (inl q) = absurd cc
runs own goes ends m f s r u k (Until vs p e b d) (inr q) = in_turn own m f vs s u k p q
runs own goes ends m f s r u k (NextRefused vs t e p g n d) (inl q) = ⊎_elim (λ o. inl o) (λ kept. in_turn own m f vs s t k p kept) (f t (Err e) u k n (inl cc))
runs own goes ends m f s r u k (NextRefused vs t e p g n d) (inr q) = ⊎_elim (λ o. inl o) (λ kept. in_turn own m f vs s t k p kept) (f t (Err e) u k n (inr q))

pub stored : {A V : Type 0} (m : Meaning A V) → OwnFaults WantsMemory m → OwnFaults WantsMemory (Stored m)
stored m f = then WantsMemory m _ f (λ v. checked WantsMemory LacksMemory (Answer v) lacking (answer WantsMemory v))

takes_each : {A T : Type 0} (own : ErrorKind → Type 0) (m : Meaning A T) → OwnFaults own m → (xs : List (Taken A T)) (s u : Standing A) (k : ErrorKind) → TakesEach m s xs u → KeepsIo k u → own k ⊎ KeepsIo k s
takes_each own m f [] s u k p q = inr (subst (λ t. KeepsIo k t) (sym p) q)
takes_each own m f (x ∷ xs) s u k p q = ⊎_elim (λ o. inl o) (λ kept. f s (Ok (x.item)) p.0 k (p.1.read) (inr kept)) (takes_each own m f xs p.0 u k p.2 q)

-- an answer after items that were taken
behind : {A T : Type 0} (own : ErrorKind → Type 0) (m : Meaning A T) → OwnFaults own m → (xs : List (Taken A T)) (s t : Standing A) (k : ErrorKind) → TakesEach m s xs t
    → own k ⊎ KeepsIo k t → own k ⊎ KeepsIo k s
behind own m f xs s t k p q = ⊎_elim (λ o. inl o) (λ kept. takes_each own m f xs s t k p kept) q

pub judged : {A T J : Type 0} (judge : Judge A T J) (closes : Standing A → Standing A → Type 0) (ended : J → Type 0) (j : J) (m : Meaning A T)
    → ((t u : Standing A) (k : ErrorKind) → closes t u → KeepsIo k u → WantsMemory k ⊎ KeepsIo k t)
    → OwnFaults WantsMemory m → OwnFaults WantsMemory (Judged judge closes ended j m)
judged judge closes ended j m h f s r u k (EndsWith xs x i l p g v e b d) (inl q) = absurd cc
judged judge closes ended j m h f s r u k (EndsWith xs x i l p g v e b d) (inr q) = takes_each WantsMemory m f _ s u k p q
judged judge closes ended j m h f s r u k (Closes xs i t p g c e b d) (inl q) = absurd cc
judged judge closes ended j m h f s r u k (Closes xs i t p g c e b d) (inr q) = behind WantsMemory m f xs s t k p (h t u k c q)
judged judge closes ended j m h f s r u k (ItemRefused xs i t e p g n o d) (inl q) = behind WantsMemory m f xs s t k p (f t (Err e) u k n (inl cc))
judged judge closes ended j m h f s r u k (ItemRefused xs i t e p g n o d) (inr q) = behind WantsMemory m f xs s t k p (f t (Err e) u k n (inr q))
judged judge closes ended j m h f s r u k (WithoutWidth xs x i l e p g v w t o b d) (inl q) = let y = t.is in absurd cc
judged judge closes ended j m h f s r u k (WithoutWidth xs x i l e p g v w t o b d) (inr q) = takes_each WantsMemory m f _ s u k p q
judged judge closes ended j m h f s r u k (Unplaced xs x v i l p g w y o b d) (inl q) = inl (let e : OutOfMemory ≡ k = cc in sym e)
judged judge closes ended j m h f s r u k (Unplaced xs x v i l p g w y o b d) (inr q) = takes_each WantsMemory m f _ s u k p q

until : {A T P : Type 0} (answers : P → T → Bool → P → Type 0) (ended : P → Type 0) (p : P) (m : Meaning A T) → OwnFaults WantsMemory m → OwnFaults WantsMemory (ReadsUntil answers ended p m)
until answers ended p m f = judged _ _ ended p m (λ t u k c q. absurd c) f

bits_of : {A T : Type 0} (n : ℕ) (m : Meaning A T) → OwnFaults WantsMemory m → OwnFaults WantsMemory (ReadsBitsOf n m)
bits_of n m f s r u k (NoBits e p) q = answer WantsMemory [] s r u k p q
bits_of n m f s r u k (SomeBits e p) q = judged _ _ _ tt m (λ t v i c h. absurd c) f s r u k p q

to_end : {T : Type 0} (m : Meaning (Option Stream) T) → OwnFaults WantsMemory m → OwnFaults WantsMemory (ReadsToEnd m)
to_end m f = judged _ _ _ tt _ (λ t u k c q. wider WantsMemory Ending (cause_law.1) t (Ok true) u k c (inr q))
    (then WantsMemory MoreToCome _ (seen WantsMemory _ Ending (wider WantsMemory Ending (cause_law.1))) (λ _. f))

count : {A T : Type 0} (n : ℕ) (m : Meaning A T) → OwnFaults WantsMemory m → OwnFaults WantsMemory (ReadsCount n m)
count n m f = runs WantsMemory _ _ (Stored m) (stored m f)

pub under : {T P : Type 0} (answers : P → T → Bool → P → Type 0) (ended : P → Type 0) (l : Limit T P) (m : Meaning (Option Stream) T) → OwnFaults WantsMemory m → OwnFaults WantsMemory (ReadsUnder answers ended l m)
under answers ended (Count n) m f = count n m f
under answers ended (Until p _) m f = until answers ended p m f
under answers ended (ByteSize n) m f = checked WantsMemory _ _ (λ s r u k p q. inr (texted InvalidParam _ no_param s r u k p.1 q)) (λ s r u k p q. bits_of _ m f s r u k p.1 q)
under answers ended (BitSize n) m f = bits_of _ m f
under answers ended End m f = to_end m f

-- ---- values that hold others
shows : {A V W : Type 0} (own : ErrorKind → Type 0) (h : W → V) (v : V) → OwnFaults {A = A} own (Shows h v)
shows own h v s r u k (Shown e) (inl q) = absurd cc
shows own h v s r u k (Shown e) (inr q) = inr q

pub boxed : {A V W : Type 0} (h : W → V) (m : Meaning A V) → OwnFaults WantsMemory m → OwnFaults WantsMemory (Then m (λ v. Checked LacksMemory (Shows h v)))
boxed h m f = then WantsMemory m _ f (λ v. checked WantsMemory LacksMemory (Shows h v) lacking (shows WantsMemory h v))

-- ---- what is made of one number
pub reads_unsigned : (t : NumberType) (l : Layout) → OwnFaults NoKind (ReadsUnsigned t l)
reads_unsigned t l s (Ok n) u k p (inl q) = absurd cc
reads_unsigned t l s (Err e) u k p (inl q) = reads_number t l s (Err e) u k p (inl cc)
reads_unsigned t l s r u k p (inr q) = reads_number t l s (integers r) u k p (inr q)

pub shown : {V W : Type 0} (m : Meaning (Option Stream) V) (h : W → V) → OwnFaults NoKind m → OwnFaults NoKind (Then m (Shows h))
shown m h f = then NoKind m (Shows h) f (shows NoKind h)

pub shown_unless : {V W : Type 0} (m : Meaning (Option Stream) V) (none : V → Type 0) (text : List ℕ) (h : W → V) → OwnFaults NoKind m → OwnFaults NoKind (Then m (ShowsUnless none text h))
shown_unless m none text h f = then NoKind m _ f (λ v. checked NoKind _ _ (λ s r u k p q. inr (texted Parse text no_parse s r u k p.1 q)) (shows NoKind h v))

-- ---- texts and bytes
unended : {A : Type 0} (bytes : List ℕ) → OwnFaults {A = A} WantsMemory (Unended bytes)
unended bytes s r u k (Text text e) (inl q) = absurd cc
unended bytes s r u k (Text text e) (inr q) = inr q
unended bytes s r u k (NoText e p) q = inr (texted Parse _ no_parse s r u k p q)

read_byte : OwnFaults WantsMemory ReadsByte
read_byte =
    let m = ReadsUnsigned byte (record { endian = Little; order = Msb0; size = Whole }) in
    stored m (wider WantsMemory m (reads_unsigned byte (record { endian = Little; order = Msb0; size = Whole })))

pub text_to_zero : OwnFaults WantsMemory ReadsTerminated
text_to_zero = then WantsMemory _ _ (runs WantsMemory _ _ ReadsByte read_byte) unended

pub text_within : (n : ℕ) → OwnFaults WantsMemory (ReadsWithin n)
text_within n = then WantsMemory _ _ (runs WantsMemory _ _ ReadsByte read_byte) unended

pub exact_bytes : {V : Type 0} (h : V → List ℕ) (o : Order) (n : ℕ) → OwnFaults WantsMemory (Seen h (Mapped bytes_of (ReadsVec o n)))
exact_bytes h o n = seen WantsMemory h (Mapped bytes_of (ReadsVec o n)) (mapped WantsMemory bytes_of (ReadsVec o n) ((cause_law.0 o n).2))

-- ---- whole values: nothing was kept before
pub from_first : {V : Type 0} (n : ℕ) (m : Meaning (Option Stream) V) → OwnFaults WantsMemory m → OwnFaults WantsMemory (Behind n m)
from_first n m f = then WantsMemory _ _ (wider WantsMemory (Skips Msb0 n) ((cause_law.0 Msb0 n).5)) (λ _. f)

pub from_bytes : {V : Type 0} (n : ℕ) (m : Meaning (Option Stream) V) (bytes : List ℕ) (k : ErrorKind) → OwnFaults WantsMemory m → ReadsBytesOnce (Behind n m) bytes (Err (Io k)) → WantsMemory k
from_bytes n m bytes k f (inl p) = ⊎_elim (λ o. o) (λ kept. absurd kept) (from_first n m f _ _ p.0 k p.1 (inl refl))
from_bytes n m bytes k f (inr p) = let e = p.4 in absurd cc

-- the source that was lent may be one that fails
pub from_reader : {R V : Type 0} (known : R → KnownSource) (n : ℕ) (m : Meaning (Option Stream) V) (old new : R) (k : ErrorKind) → OwnFaults WantsMemory m
    → ReadsOnce known (Behind n m) old (Err (Io k)) new → DeviceFailed (known old).health (known new).health ⊎ WantsMemory k
from_reader known n m old new k f p = ⊎_elim (λ o. inl o) (λ h. ⊎_elim (λ o. inr o) (λ kept. absurd kept) h) (caused WantsMemory _ _ _ _ _ _ (from_first n m f) p.reads k refl)

pub to_bytes : (m : Meaning Output (Unit {0})) (k : ErrorKind) → OwnFaults WantsPlace m → WritesOnce (Both m Finalizes) (Err (Io k)) → WantsPlace k
to_bytes m k f p = ⊎_elim (λ o. o) (λ kept. absurd kept) (then WantsPlace m _ f (λ _. cause_law.4) _ _ p.0 k p.1 (inl refl))

pub to_slice : (m : Meaning Output (Unit {0})) (old new : List ℕ) (k : ErrorKind) → OwnFaults WantsPlace m → WritesOver (Both m Finalizes) old (Err (Io k)) new → WantsPlace k
to_slice m old new k f p = ⊎_elim (λ o. o) (λ kept. absurd kept) (then WantsPlace m _ f (λ _. cause_law.4) _ _ p.0 k p.1 (inl refl))

pub to_bits : (m : Meaning Output (Unit {0})) (k : ErrorKind) → OwnFaults WantsPlace m → WritesBare m (Err (Io k)) → WantsPlace k
to_bits m k f (inl p) = ⊎_elim (λ o. o) (λ kept. absurd kept) (f _ _ p.0 k p.1 (inl refl))
to_bits m k f (inr (inl p)) = ⊎_elim (λ o. o) (λ kept. absurd kept) (f _ _ _ k p.2 (inr refl))
to_bits m k f (inr (inr p)) = inl (let e = p.3 in cc)
