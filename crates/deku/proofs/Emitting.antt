-- What calls on a writer that does not fail give to its sink, one after the other.
use Rattle.std.proofs.Common.{◌≡◌, ℕ, ◌+◌, ◌*◌, ◌≤◌, ◌^◌, Bool, false, Result, Ok, Err, List, ◌++◌, length, ap, ◌∙◌, subst, inl, inr, arith, length-append}
use Rattle.std.proofs.KnownBytes.{Appends-trans}
use Rattle.std.specs.declared.io.ErrorKind.{ErrorKind}
use Rattle.deku_bits.specs.declared.error.DekuError.{DekuError}
use Rattle.deku_bits.specs.declared.error.DekuError.TheVariants.{Io}
use Rattle.deku_bits.specs.Writers.{Pending, Written}
use Rattle.deku_bits.specs.Symmetry.{followed}
use Rattle.deku_bits.specs.Devices.{LacksRoom}
use Rattle.deku_bits.specs.Standings.{Standing, Going, Output}
use Rattle.deku_bits.specs.WriterCalls.{Took, Emits}
use Rattle.deku_bits.proofs.Gives.{Shrinks-trans, LacksRoom-after, LacksRoom-more}
use Rattle.deku_meanings.specs.Composing.{Then, Second, First}

-- what a call with these bytes to give may end with: they are taken; or the sink lacks the room for them; or they are past the count
pub data Wrote (w : Written) (out : Output) (c : ℕ) (r : Result (Unit {0}) DekuError) (u : Standing Output) : Type 0 where
  Done : (after : Output) → Took w out after → r ≡ Ok tt → u ≡ Going after (c + 8 * length w.bytes) → Wrote w out c r u
  Lacking : (kind : ErrorKind) → LacksRoom out.room (length w.bytes) kind → r ≡ Err (Io kind) → Wrote w out c r u
  Full : (e : DekuError) → 2 ^ 64 ≤ c + 8 * length w.bytes → r ≡ Err e → Wrote w out c r u

pub emitted : (write : Pending → Written) (out : Output) (c : ℕ) (r : Result (Unit {0}) DekuError) (u : Standing Output)
    → Emits write false (Going out c) r u → Wrote (write out.pending) out c r u
emitted write out c r u (inl p) = let q = p.1 in Full _ p.0 q.2
emitted write out c r u (inr (a, inl p)) = Done p.0 p.1 p.2 p.3
emitted write out c r u (inr (a, inr p)) = Lacking p.0 p.2 p.3

-- one call after another that gave its bytes
then_wrote : (w : Written) (next : Pending → Written) (out mid : Output) (c : ℕ) (r : Result (Unit {0}) DekuError) (u : Standing Output)
    → Took w out mid → Wrote (next mid.pending) mid (c + 8 * length w.bytes) r u → Wrote (followed w next) out c r u
then_wrote w next out mid c r u t (Done after q e f) =
    let x : List ℕ = w.bytes in
    let V : Written = next w.pending in
    let k : next mid.pending ≡ V = ap next t.pending in
    let q' : Took V mid after = subst (λ W. Took W mid after) k q in
    let sum : c + 8 * length x + 8 * length (next mid.pending).bytes ≡ c + 8 * length (x ++ V.bytes) =
    ap (λ W. c + 8 * length x + 8 * length W.bytes) k ∙ omega (arith, length-append x V.bytes) in
    Done after
    (record {
      taken = Appends-trans out.taken mid.taken after.taken x V.bytes t.taken q'.taken;
      room = rw (length-append x V.bytes) (Shrinks-trans out.room mid.room after.room (length x) (length V.bytes) t.room q'.room);
      pending = q'.pending;
    })
    e (f ∙ ap (λ n. Going after n) sum)
then_wrote w next out mid c r u t (Lacking kind l e) =
    let k : next mid.pending ≡ next w.pending = ap next t.pending in
    Lacking kind
    (rw (length-append w.bytes (next w.pending).bytes)
    (LacksRoom-after out.room mid.room (length w.bytes) (length (next w.pending).bytes) kind t.room (subst (λ W. LacksRoom mid.room (length W.bytes) kind) k l)))
    e
then_wrote w next out mid c r u t (Full e p q) =
    let k : length (next mid.pending).bytes ≡ length (next w.pending).bytes = ap (λ P. length (next P).bytes) t.pending in
    Full e (omega (arith, length-append w.bytes (next w.pending).bytes)) q

-- a call that did not give its bytes, before another
wrote_less : (w : Written) (next : Pending → Written) (out : Output) (c : ℕ) (e : DekuError) (r : Result (Unit {0}) DekuError) (u : Standing Output)
    → Wrote w out c (Err e) u → r ≡ Err e → Wrote (followed w next) out c r u
wrote_less w next out c e r u (Done after q f g) h = absurd (cc)
wrote_less w next out c e r u (Lacking kind l f) h =
    let n : length w.bytes ≤ length (followed w next).bytes = omega (arith, length-append w.bytes (next w.pending).bytes) in
    Lacking kind (LacksRoom-more out.room (length w.bytes) (length (followed w next).bytes) kind n l) (h ∙ f)
wrote_less w next out c e r u (Full x p q) h = Full e (omega (arith, length-append w.bytes (next w.pending).bytes)) h

pub followed_wrote : (w : Written) (next : Pending → Written) (out : Output) (c : ℕ) (m : (b : Bool) → Standing Output → Result (Unit {0}) DekuError → Standing Output → Type 0)
    (k : Unit {0} → (b : Bool) → Standing Output → Result (Unit {0}) DekuError → Standing Output → Type 0) (r : Result (Unit {0}) DekuError) (u : Standing Output)
    → ((r : Result (Unit {0}) DekuError) (u : Standing Output) → m false (Going out c) r u → Wrote w out c r u)
    → ((mid : Output) (d : ℕ) (r : Result (Unit {0}) DekuError) (u : Standing Output) → k tt false (Going mid d) r u → Wrote (next mid.pending) mid d r u)
    → Then m k false (Going out c) r u → Wrote (followed w next) out c r u
followed_wrote w next out c m k r u f g (First e p q) = wrote_less w next out c e r u (f (Err e) u p) q
followed_wrote w next out c m k r u f g (Second v t p q) = go (f (Ok v) t p)
  where
    go : Wrote w out c (Ok v) t → Wrote (followed w next) out c r u
    go (Done after a e h) = then_wrote w next out after c r u a (g after (c + 8 * length w.bytes) r u (rw h at q))
    go (Lacking kind l e) = absurd (cc)
    go (Full x p e) = absurd (cc)
