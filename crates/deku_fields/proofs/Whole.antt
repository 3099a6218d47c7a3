-- Whole lists, in memory.
use Rattle.std.proofs.Common.{◌≡◌, ◌⊎◌, ℕ, ◌*◌, ◌<◌, ◌^◌, false, Result, Ok, Err, Option, Some, None, IsErrAnd, List, [], ◌∷◌, length, take, All, refl, ap, sym, ◌∙◌, subst, inl, inr, ⊎_elim, arith}
use Rattle.std.proofs.lemmas.Result.{err_from_is_err_and}
use Rattle.std.specs.Io.KnownBytes.{Appends}
use Rattle.std.specs.declared.io.ErrorKind.TheVariants.{OutOfMemory}
use Rattle.deku_bits.specs.declared.error.DekuError.{DekuError}
use Rattle.deku_bits.specs.declared.error.DekuError.TheVariants.{Io}
use Rattle.deku_bits.specs.Bits.{shown}
use Rattle.deku_bits.specs.Pieces.{laid_out}
use Rattle.deku_bits.specs.Writers.{Pending, Nothing, Written, append, finalized, padded}
use Rattle.deku_bits.specs.Symmetry.{appended, packed}
use Rattle.deku_bits.specs.Devices.{KnownSink, bytes_before}
use Rattle.deku_bits.specs.Standings.{Standing, Going, Stopped, Output, writer_state}
use Rattle.deku_bits.specs.WriterCalls.{Emits, Finalizes}
use Rattle.deku_num.specs.NumberCalls.{Refused, Passed}
use Rattle.deku.specs.Composing.{Answered, Second, First, Both}
use Rattle.deku_fields.specs.declared.list.Item.{Item}
use Rattle.deku_fields.specs.Items.{IsFitting, AlignedFields, LaysOut, fields_of}
use Rattle.deku.specs.Wholes.{in_memory}
use Rattle.deku.proofs.Containers.{before_is}
use Rattle.deku_fields.specs.ListCalls.{WritesItem, WritesItems}
use Rattle.deku_fields.specs.Promise.{IsCountable}
use Rattle.deku_fields.proofs.FieldLists.{piece_law, written}
use Rattle.deku.proofs.Emitting.{Wrote, Done, Lacking, Full, emitted, followed_wrote}
use Rattle.deku_fields.proofs.WritingLists.{items_wrote}

-- ---- what is known stays known
record Tells (u : Standing Output) : Type 0 where
  out : Output
  count : ℕ
  bytes : List ℕ
  goes : u ≡ Going out count
  told : out.taken ≡ Some bytes

told_on : (xs bs : List ℕ) (a b : Option (List ℕ)) → a ≡ Some xs → Appends a b bs → (ys : List ℕ) × (b ≡ Some ys)
told_on xs bs None b e p = absurd (cc)
told_on xs bs (Some x) None e p = absurd p
told_on xs bs (Some x) (Some y) e p = (y, refl)

emits_tell : (write : Pending → Written) (out : Output) (c : ℕ) (xs : List ℕ) (u : Standing Output) → out.taken ≡ Some xs → Emits write false (Going out c) (Ok tt) u → Tells u
emits_tell write out c xs u e (inl p) = let f = p.1.2 in absurd (cc)
emits_tell write out c xs u e (inr (a, inl p)) =
    let k = told_on xs (write out.pending).bytes out.taken p.0.taken e p.1.taken in
    record { out = p.0; count = _; bytes = k.0; goes = p.3; told = k.1 }
emits_tell write out c xs u e (inr (a, inr p)) = let f = p.3 in absurd (cc)

item_tells : (i : Item) (out : Output) (c : ℕ) (xs : List ℕ) (u : Standing Output) → out.taken ≡ Some xs → WritesItem i false (Going out c) (Ok tt) u → Tells u
item_tells i out c xs u e (Refused b p) = let f = p.1.2 in absurd (cc)
item_tells i out c xs u e (Passed (k, Refused b p)) = let f = p.2 in absurd (cc)
item_tells i out c xs u e (Passed (k, Passed (Refused b p))) = let f = p.2.2 in absurd (cc)
item_tells i out c xs u e (Passed (k, Passed (Passed p))) = emits_tell (append i.field.layout.order (shown i.field.layout.order p.1.0)) out c xs u e p.1.2

items_tell : (is : List Item) (out : Output) (c : ℕ) (xs : List ℕ) (u : Standing Output) → out.taken ≡ Some xs → WritesItems is false (Going out c) (Ok tt) u → Tells u
items_tell [] out c xs u e Answered = record { out = out; count = c; bytes = xs; goes = refl; told = e }
items_tell (i ∷ is) out c xs u e (First d p q) = absurd (cc)
items_tell (i ∷ is) out c xs u e (Second v t p q) =
    let k = item_tells i out c xs t e p in
    items_tell is k.out k.count k.bytes u k.told (subst (λ x. WritesItems is false x (Ok tt) u) k.goes q)

-- ---- the whole
-- what was written to memory, where all of it was
pub whole_written : (is : List Item) (t : Standing Output) (told : KnownSink) (st : Standing Pending)
    → WritesItems is false (Going in_memory 0) (Ok tt) t → Finalizes false t (Ok tt) (writer_state told st)
    → (bytes : List ℕ) × (told.taken ≡ Some bytes) × ((out : Output) × (c : ℕ) × Both (WritesItems is) Finalizes false (Going in_memory 0) (Ok tt) (Going out c) × (out.taken ≡ Some bytes))
whole_written is t told (Stopped w e c) p q =
    let k = items_tell is in_memory 0 [] t refl p in
    let m = emits_tell finalized k.out k.count k.bytes _ k.told (subst (λ x. Finalizes false x (Ok tt) (writer_state told (Stopped w e c))) k.goes q) in
    let f = m.goes in absurd (cc)
whole_written is t told (Going pending c) p q =
    let k = items_tell is in_memory 0 [] t refl p in
    let m = emits_tell finalized k.out k.count k.bytes _ k.told (subst (λ x. Finalizes false x (Ok tt) (writer_state told (Going pending c))) k.goes q) in
    let out : Output = record { taken = told.taken; room = told.room; pending = pending } in
    let same : out ≡ m.out = going (Going out c) out m.out c m.count refl m.goes in
    let tells : told.taken ≡ Some m.bytes = ap (λ o. o.taken) same ∙ m.told in
    (m.bytes, tells, (out, c, Second tt t p q, tells))
  where
    going : (u : Standing Output) (a b : Output) (m n : ℕ) → u ≡ Going a m → u ≡ Going b n → a ≡ b
    going u a b m n e f = cc

-- fitting items that are aligned are written as their layout, or no memory is found
pub laid_whole : (is : List Item) (r : Result (Unit {0}) DekuError) (u : Standing Output) → All IsFitting is → AlignedFields (fields_of is)
    → ((bytes : List ℕ) → LaysOut is bytes → 8 * length bytes < 2 ^ 64) → Both (WritesItems is) Finalizes false (Going in_memory 0) r u
    → ((r ≡ Ok tt) × ((out : Output) (c : ℕ) (bytes : List ℕ) → u ≡ Going out c → out.taken ≡ Some bytes → LaysOut is bytes)) ⊎ (r ≡ Err (Io OutOfMemory))
unfolding padded
laid_whole is r u all aligned small w =
    let ps = piece_law is all in
    let bytes : packed ps.0 ≡ laid_out ps.0 = written is ps.0 aligned ps.1 in
    let laid : LaysOut is (packed ps.0) = record { pieces = ps.0; are = ps.1; is = bytes } in
    let e = followed_wrote (appended ps.0 Nothing) finalized in_memory 0 (WritesItems is) (λ _. Finalizes) r u
    (λ x y m. items_wrote is ps.0 all ps.1 in_memory 0 x y m)
    (λ mid d x y m. emitted finalized mid d x y m) w in
    go laid e
  where
    go : {W : Written} → LaysOut is W.bytes → Wrote W in_memory 0 r u
        → ((r ≡ Ok tt) × ((out : Output) (c : ℕ) (bytes : List ℕ) → u ≡ Going out c → out.taken ≡ Some bytes → LaysOut is bytes)) ⊎ (r ≡ Err (Io OutOfMemory))
    go {W} laid (Done after t e f) =
        inl (e, λ out c bytes g h. subst (LaysOut is) (took (t.taken) (ap (λ o. o.taken) (same out after c _ g f)) h) laid)
      where
        same : (a b : Output) (m n : ℕ) → u ≡ Going a m → u ≡ Going b n → a ≡ b
        same a b m n p q = cc

        took : {a b : Option (List ℕ)} {xs : List ℕ} → Appends (Some []) b W.bytes → a ≡ b → a ≡ Some xs → W.bytes ≡ xs
        took p q s = one _ _ p (sym q ∙ s)
          where
            one : (b : Option (List ℕ)) (xs : List ℕ) → Appends (Some []) b W.bytes → b ≡ Some xs → W.bytes ≡ xs
            one None xs p e = absurd (cc)
            one (Some y) xs p e = sym p ∙ (let f : y ≡ xs = cc in f)
    go laid (Lacking kind l e) = inr (e ∙ ap (λ k. Err (Io k)) l)
    go {W} laid (Full x p e) = absurd (let h = small W.bytes laid in omega arith)

-- what a `?` hands on
pub handed_on : {V : Type 0} (e : DekuError) (r : Result V DekuError) → IsErrAnd r (λ x. x ≡ e) → r ≡ Err e
handed_on e r h = let p = err_from_is_err_and r h in p.1 ∙ ap Err p.2

pub whole_both : (is : List Item) (told : KnownSink) (st : Standing Pending) → Both (WritesItems is) Finalizes false (Going in_memory 0) (Ok tt) (writer_state told st)
    → (bytes : List ℕ) × (told.taken ≡ Some bytes) × ((out : Output) × (c : ℕ) × Both (WritesItems is) Finalizes false (Going in_memory 0) (Ok tt) (Going out c) × (out.taken ≡ Some bytes))
whole_both is told st (First e p q) = absurd (cc)
whole_both is told st (Second v t p q) = whole_written is t told st p q

-- the bytes before the place of a cursor, where items were written from its start
pub written_whole : (is : List Item) (place : ℕ) (xs ys : List ℕ) (told : KnownSink) (st : Standing Pending) → told.taken ≡ bytes_before place xs → ys ≡ take place xs
    → Both (WritesItems is) Finalizes false (Going in_memory 0) (Ok tt) (writer_state told st)
    → (out : Output) × (c : ℕ) × Both (WritesItems is) Finalizes false (Going in_memory 0) (Ok tt) (Going out c) × (out.taken ≡ Some ys)
written_whole is place xs ys told st e f w =
    let k = whole_both is told st w in
    let same : ys ≡ k.0 = f ∙ before_is place xs k.0 (sym e ∙ k.1) in
    (k.2.0, k.2.1, k.2.2, k.2.3 ∙ ap Some (sym same))

ok_not_err : {e : DekuError} → ◌≡◌ {A = Result (Unit {0}) DekuError} (Ok tt) (Err e) → ⊥
ok_not_err p = cc

err_is : {e d : DekuError} → ◌≡◌ {A = Result (Unit {0}) DekuError} (Err e) (Err d) → e ≡ d
err_is p = cc

pub laid_ok : (is : List Item) (ys : List ℕ) → All IsFitting is → AlignedFields (fields_of is) → IsCountable is
    → (out : Output) (c : ℕ) → Both (WritesItems is) Finalizes false (Going in_memory 0) (Ok tt) (Going out c) → out.taken ≡ Some ys → LaysOut is ys
laid_ok is ys all aligned small out c w e =
    ⊎_elim (λ p. p.1 out c ys refl e) (λ p. absurd (ok_not_err p)) (laid_whole is (Ok tt) (Going out c) all aligned small w)

pub laid_err : (is : List Item) (e : DekuError) (u : Standing Output) → All IsFitting is → AlignedFields (fields_of is) → IsCountable is
    → Both (WritesItems is) Finalizes false (Going in_memory 0) (Err e) u → e ≡ Io OutOfMemory
laid_err is e u all aligned small w =
    ⊎_elim (λ p. absurd (ok_not_err (sym (p.0)))) (λ p. err_is p) (laid_whole is (Err e) u all aligned small w)

pub from_start : (is : List Item) (s : Standing Output) (r : Result (Unit {0}) DekuError) (u : Standing Output) → s ≡ Going in_memory 0
    → Both (WritesItems is) Finalizes false s r u → Both (WritesItems is) Finalizes false (Going in_memory 0) r u
from_start is s r u e w = subst (λ x. Both (WritesItems is) Finalizes false x r u) e w
