-- Reads that cannot but answer one of some values, one after the other.
pub use Rattle.deku.proofs.Exact.{ok_is}
use Rattle.std.proofs.Common.{◌≡◌, ℕ, false, Option, Some, Result, Ok, Err, refl, ap, ◌∙◌, inl, inr}
use Rattle.std.specs.declared.io.ErrorKind.TheVariants.{OutOfMemory}
use Rattle.deku_bits.specs.declared.error.DekuError.{DekuError}
use Rattle.deku_bits.specs.declared.error.DekuError.TheVariants.{Io}
use Rattle.deku_bits.specs.Streams.{Stream}
use Rattle.deku_bits.specs.Standings.{Standing, Going}
use Rattle.deku_bits.specs.Outcomes.{Meaning, Mapped, Value, Refusal}
use Rattle.deku.specs.Composing.{Answer, Answered, Then, Second, First}
use Rattle.deku_pieces.specs.Symmetric.{Answers}

-- a value is no refusal
pub no_refusal : {V E : Type 0} (v : V) (e : E) → ◌≡◌ {A = Result V E} (Ok v) (Err e) → ⊥
no_refusal v e x = absurd (cc)

-- a refusal, at another type of values
pub err_at : {V W E : Type 0} (e x : E) → ◌≡◌ {A = Result V E} (Err e) (Err x) → ◌≡◌ {A = Result W E} (Err e) (Err x)
err_at e x h = cc

-- from s on, m returns one of these values and leaves T, or is out of memory
abbrev pub Must : {V : Type 0} → Meaning (Option Stream) V → Standing (Option Stream) → (V → Type 0) → Stream → ℕ → Type 0
Must {V} m s good T n = (r : Result V DekuError) (u : Standing (Option Stream)) → m false s r u → Answers good T n r u

pub answer_is : {V : Type 0} (v w : V) (s u : Standing (Option Stream)) → Answer v false s (Ok w) u → (w ≡ v) × (u ≡ s)
answer_is v w s u Answered = (refl, refl)

pub answer_must : {V : Type 0} (v : V) (good : V → Type 0) (T : Stream) (n : ℕ) → good v → Must (Answer v) (Going (Some T) n) good T n
answer_must v good T n g r u Answered = inl (v, g, refl, refl)

pub mapped_must : {V W : Type 0} (h : V → W) (m : Meaning (Option Stream) V) (s : Standing (Option Stream)) (good : V → Type 0) (fine : W → Type 0) (T : Stream) (n : ℕ)
    → ((v : V) → good v → fine (h v)) → Must m s good T n → Must (Mapped h m) s fine T n
mapped_must h m s good fine T n f g r u (Value v p e) = go (g (Ok v) u p)
  where
    go : Answers good T n (Ok v) u → Answers fine T n r u
    go (inl (w, ok, is, stands)) = inl (h w, f w ok, e ∙ ap (λ k. Ok (h k)) (ok_is v w is), stands)
    go (inr is) = absurd (cc)
mapped_must h m s good fine T n f g r u (Refusal e p q) = go (g (Err e) u p)
  where
    go : Answers good T n (Err e) u → Answers fine T n r u
    go (inl (w, ok, is, stands)) = absurd (cc)
    go (inr is) = inr (q ∙ err_at e (Io OutOfMemory) is)

pub then_must : {V W : Type 0} (m : Meaning (Option Stream) V) (k : V → Meaning (Option Stream) W) (s : Standing (Option Stream)) (good : V → Type 0) (U : Stream) (i : ℕ)
    (fine : W → Type 0) (T : Stream) (j : ℕ)
    → Must m s good U i → ((v : V) → good v → Must (k v) (Going (Some U) i) fine T j) → Must (Then m k) s fine T j
then_must m k s good U i fine T j g h r u (Second v t p q) = go (g (Ok v) t p)
  where
    go : Answers good U i (Ok v) t → Answers fine T j r u
    go (inl (w, ok, is, stands)) = h v (rw (ok_is v w is) ok) r u (rw (← stands) q)
    go (inr is) = absurd (cc)
then_must m k s good U i fine T j g h r u (First e p q) = go (g (Err e) u p)
  where
    go : Answers good U i (Err e) u → Answers fine T j r u
    go (inl (w, ok, is, stands)) = absurd (cc)
    go (inr is) = inr (q ∙ err_at e (Io OutOfMemory) is)
