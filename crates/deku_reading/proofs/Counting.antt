-- So many items that are read and put into a collection: what is known on the way.
use Rattle.std.proofs.Common.{◌≡◌, ℕ, ◌+◌, ◌<◌, List, [], ◌∷◌, ◌++◌, length, Ok, Err, ap, ◌∙◌}
use Rattle.std.specs.List.{FoldsTo}
use Rattle.std.proofs.lemmas.Fn.{FoldsTo-push}
use Rattle.std.proofs.lemmas.List.{length-append}
use Rattle.std.specs.declared.io.ErrorKind.TheVariants.{OutOfMemory}
use Rattle.deku_bits.specs.declared.error.DekuError.{DekuError}
use Rattle.deku_bits.specs.declared.error.DekuError.TheVariants.{Io}
use Rattle.deku_bits.specs.Devices.{Health}
use Rattle.deku_bits.specs.Standings.{Standing}
use Rattle.deku_bits.specs.Outcomes.{Meaning, Outcome}
use Rattle.deku_reading.specs.Lists.{Stored}
use Rattle.deku_reading.specs.Limits.{ReadsCount, MappedBy}
use Rattle.deku_meanings.proofs.Joining.{first_refused, then_on}
use Rattle.deku_reading.proofs.Runs.{SoFar, one_more, run_ended, run_refused, stored}
use Rattle.deku_reading.proofs.Holding.{no_memory}
use Rattle.deku_reading.proofs.Judging.{held_ok, held_err}

-- n items were read and put in their places
pub record Counted {A T B : Type 0} (puts : B → T → B → Type 0) (m : Meaning A T) (n : ℕ) (b c : B) (s0 : Standing A) (f0 : Health) (s : Standing A) (f : Health) : Type 0 where
  pub items : List T
  pub long : length items ≡ n
  pub far : SoFar (Stored m) items s0 f0 s f
  pub put : FoldsTo puts b items c

module _ {A T B : Type 0} {puts : B → T → B → Type 0} {m : Meaning A T} {n : ℕ} {b c : B} {s0 : Standing A} {f0 : Health} {s : Standing A} {f : Health} (h : Counted puts m n b c s0 f0 s f) where
  pub counts_on : {v : T} {t : Standing A} {g : Health} {d : B} → Outcome m s f (Ok v) t g → puts c v d → Counted puts m (n + 1) b d s0 f0 t g
  counts_on {v} {d} o p = record {
    items = h.items ++ v ∷ [];
    long = length-append h.items (v ∷ []) ∙ ap (λ x. x + 1) h.long;
    far = one_more h.far (stored o);
    put = FoldsTo-push puts b h.items c v d h.put p;
  }

  -- the next item is refused
  pub count_refused : {e : DekuError} {t : Standing A} {g : Health} (k : ℕ) → n < k → Outcome m s f (Err e) t g → Outcome (MappedBy (λ xs z. FoldsTo puts b xs z) (ReadsCount k m)) s0 f0 (Err e) t g
  count_refused k l o = held_err (run_refused h.far (rw h.long l) (first_refused o))

  -- no memory is found for the next item
  pub count_no_place : {v : T} {e : DekuError} {t : Standing A} {g : Health} (k : ℕ) → n < k → Outcome m s f (Ok v) t g → e ≡ Io OutOfMemory → Outcome (MappedBy (λ xs z. FoldsTo puts b xs z) (ReadsCount k m)) s0 f0 (Err e) t g
  count_no_place k l o e = rw e (held_err (run_refused h.far (rw h.long l) (then_on o no_memory)))

  pub all_counted : (k : ℕ) → n ≡ k → Outcome (MappedBy (λ xs z. FoldsTo puts b xs z) (ReadsCount k m)) s0 f0 (Ok c) s f
  all_counted k e = held_ok (run_ended h.far (h.long ∙ e)) h.put
