-- Where faults of the kind `Io` come from in lists of fields.
use Rattle.std.proofs.Common.{◌≡◌, ℕ, Bool, List, [], ◌∷◌, Option, Result, Err, sym, inl, inr, ⊎_elim}
use Rattle.std.specs.declared.io.ErrorKind.{ErrorKind}
use Rattle.std.specs.declared.io.ErrorKind.TheVariants.{OutOfMemory}
use Rattle.deku_bits.specs.declared.error.DekuError.{DekuError}
use Rattle.deku_bits.specs.declared.error.DekuError.TheVariants.{Io, InvalidParam}
use Rattle.deku_bits.specs.Streams.{Stream}
use Rattle.deku_bits.specs.Devices.{Health, KnownSink}
use Rattle.deku_bits.specs.Writers.{Pending}
use Rattle.deku_bits.specs.Standings.{Standing, Going, Stopped, Output, reader_state, writer_state}
use Rattle.deku_bits.specs.Outcomes.{Meaning, Outcome}
use Rattle.deku_bits.specs.WriterCalls.{Finalizes}
use Rattle.deku_bits.specs.Causes.{KeepsIo, NoKind, WantsMemory, WantsPlace, OwnFaults, Caused}
use Rattle.deku_bits.proofs.Causes.{mapped, wider, caused, cause_law}
use Rattle.deku_num.specs.NumberCalls.{ReadsNumber}
use Rattle.deku.specs.Composing.{Both}
use Rattle.deku.proofs.Causes.{answer, then, checked, texted, no_param, reads_number, writes_number}
use Rattle.deku_fields.specs.declared.list.Field.{Field}
use Rattle.deku_fields.specs.declared.list.Item.{Item}
use Rattle.deku_fields.specs.ListCalls.{ReadsField, ReadsFields, ReadsList, WritesItem, WritesItems, WritesWhole, ListFrom}

-- ---- reading
fields : (fs : List Field) → OwnFaults NoKind (ReadsFields fs)
fields [] = answer NoKind []
fields (f ∷ fs) = then NoKind (ReadsField f) _ (mapped NoKind _ (ReadsNumber _ _) (reads_number _ _)) (λ n. mapped NoKind (λ ns. n ∷ ns) (ReadsFields fs) (fields fs))

fields_vec : (fs : List Field) → OwnFaults WantsMemory (ReadsList fs)
fields_vec fs s r u k (inl p) (inl q) = let d = p.1 in inl (let e : OutOfMemory ≡ k = cc in sym e)
fields_vec fs s r u k (inl p) (inr q) = inr (rw p.2 at q)
fields_vec fs s r u k (inr p) q = wider WantsMemory (ReadsFields fs) (fields fs) s r u k p q

-- what a reader keeps, it keeps whatever its source reports
kept_reader : (remaining : Option (List ℕ)) (s : Standing (List Bool)) (k : ErrorKind) → KeepsIo k (reader_state remaining s) → KeepsIo k s
kept_reader remaining (Going w c) k p = p
kept_reader remaining (Stopped a e c) k p = p

reads_caused : {V W : Type 0} (own : ErrorKind → Type 0) (m : Meaning (Option Stream) V) (remaining : Option (List ℕ)) (s : Standing (List Bool)) (f : Health) (e : DekuError) (u : Standing (Option Stream)) (g : Health)
    → OwnFaults own m → Outcome m (reader_state remaining s) f (Err e) u g → Caused {V = W} own s f (Err e) g
reads_caused own m remaining s f e u g h o = λ k d. ⊎_elim (λ more. inl more) (λ x. inr (⊎_elim (λ y. inl y) (λ kept. inr (kept_reader remaining s k kept)) x)) (caused own m _ f (Err e) u g h o k cc)

pub list_caused : {W : Type 0} (fs : List Field) (remaining : Option (List ℕ)) (s : Standing (List Bool)) (f : Health) (e : DekuError) (u : Standing (Option Stream)) (g : Health)
    → Outcome (ReadsFields fs) (reader_state remaining s) f (Err e) u g → Caused {V = W} NoKind s f (Err e) g
list_caused fs remaining s f e u g o = reads_caused NoKind (ReadsFields fs) remaining s f e u g (fields fs) o

pub vec_caused : {W : Type 0} (fs : List Field) (remaining : Option (List ℕ)) (s : Standing (List Bool)) (f : Health) (e : DekuError) (u : Standing (Option Stream)) (g : Health)
    → Outcome (ReadsList fs) (reader_state remaining s) f (Err e) u g → Caused {V = W} WantsMemory s f (Err e) g
vec_caused fs remaining s f e u g o = reads_caused WantsMemory (ReadsList fs) remaining s f e u g (fields_vec fs) o

-- nothing was kept before
pub bytes_caused : (fs : List Field) (bytes : List ℕ) (e : DekuError) → ListFrom fs bytes (Err e) → (k : ErrorKind) → e ≡ Io k → WantsMemory k
bytes_caused fs bytes e p k d = ⊎_elim (λ o. o) (λ kept. absurd kept) (fields_vec fs _ (Err e) p.0 k p.1 (inl cc))

-- ---- writing
item : (i : Item) → OwnFaults WantsPlace (WritesItem i)
item i = checked WantsPlace _ _ (λ s r u k p q. inr (texted InvalidParam _ no_param s r u k p.1 q)) (λ s r u k p q. writes_number _ _ _ s r u k p.1 q)

items : (is : List Item) → OwnFaults WantsPlace (WritesItems is)
items [] = answer WantsPlace tt
items (i ∷ is) = then WantsPlace (WritesItem i) _ (item i) (λ _. items is)

kept_writer : (told : KnownSink) (s : Standing Pending) (k : ErrorKind) → KeepsIo k (writer_state told s) → KeepsIo k s
kept_writer told (Going w c) k p = p
kept_writer told (Stopped a e c) k p = p

pub items_caused : (is : List Item) (told : KnownSink) (s : Standing Pending) (f : Health) (r : Result (Unit {0}) DekuError) (u : Standing Output) (g : Health)
    → Outcome (WritesItems is) (writer_state told s) f r u g → Caused WantsPlace s f r g
items_caused is told s f r u g o = λ k d. ⊎_elim (λ more. inl more) (λ x. inr (⊎_elim (λ y. inl y) (λ kept. inr (kept_writer told s k kept)) x))
    (caused WantsPlace (WritesItems is) _ f r u g (items is) o k d)

pub whole_caused : (is : List Item) (e : DekuError) → WritesWhole (Both (WritesItems is) Finalizes) (Err e) → (k : ErrorKind) → e ≡ Io k → WantsPlace k
whole_caused is e p k d = ⊎_elim (λ o. o) (λ kept. absurd kept) (then WantsPlace (WritesItems is) _ (items is) (λ _. cause_law.4) _ (Err e) p.0 k p.1 (inl cc))
