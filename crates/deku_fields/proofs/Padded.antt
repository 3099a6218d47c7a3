-- What aligned fitting items give to a sink that does not fail and has the room.
use Rattle.std.proofs.Common.{◌≡◌, ℕ, ◌+◌, ◌*◌, ◌<◌, ◌≤◌, ◌^◌, ◌++◌, false, Result, Ok, Err, Option, Some, None, List, length, ◌⊎◌, inl, inr, ⊎_elim, ap, sym, ◌∙◌, subst, arith, length-append}
use Rattle.std.specs.declared.io.ErrorKind.{ErrorKind}
use Rattle.deku_bits.specs.declared.error.DekuError.{DekuError}
use Rattle.deku_bits.specs.declared.error.DekuError.TheVariants.{Io}
use Rattle.deku_bits.specs.Pieces.{Piece}
use Rattle.deku_bits.specs.Writers.{Nothing, Written, finalized, padded}
use Rattle.deku_bits.specs.Symmetry.{followed, appended, packed}
use Rattle.deku_bits.specs.Devices.{Health, LacksRoom}
use Rattle.deku_bits.specs.Standings.{Standing, Going, Output}
use Rattle.deku_bits.specs.Outcomes.{Outcome}
use Rattle.deku_bits.specs.WriterCalls.{Took, Finalizes}
use Rattle.deku_fields.specs.declared.list.Item.{Item}
use Rattle.deku_fields.specs.ListCalls.{WritesItems}
use Rattle.deku_fields.specs.Promise.{Unfailing, HasRoom, FindsNoMemory, AreWritable, WritesLaid, PaddedLaw}
use Rattle.deku_fields.proofs.Sound.{sound}
use Rattle.deku_fields.proofs.FieldLists.{written}
use Rattle.deku.proofs.Emitting.{Wrote, Done, Lacking, Full, emitted, followed_wrote}
use Rattle.deku_fields.proofs.WritingLists.{items_wrote}

-- all of them were taken
abbrev TookAll : Written → Output → ℕ → Result (Unit {0}) DekuError → Standing Output → Type 0
TookAll w out c r u = (r ≡ Ok tt) × ((after : Output) × Took w out after × (u ≡ Going after (c + 8 * length w.bytes)))

lacking : (room : Option (List ℕ)) (m n : ℕ) (kind : ErrorKind) (r : Result (Unit {0}) DekuError) → m ≤ n → HasRoom room n → LacksRoom room m kind → r ≡ Err (Io kind) → FindsNoMemory room r
lacking None m n kind r l h p e = e ∙ ap (λ k. Err (Io k)) p
lacking (Some x) m n kind r l h p e = absurd (omega (arith, p.1))

-- where there is room for no fewer bytes, and they can be counted
took_all : (w : Written) (n : ℕ) (out : Output) (c : ℕ) (r : Result (Unit {0}) DekuError) (u : Standing Output)
    → length w.bytes ≤ n → HasRoom out.room n → c + 8 * n < 2 ^ 64 → Wrote w out c r u → TookAll w out c r u ⊎ FindsNoMemory out.room r
took_all w n out c r u less room countable (Done after t e f) = inl (e, (after, t, f))
took_all w n out c r u less room countable (Lacking kind l e) = inr (lacking out.room (length w.bytes) n kind r less room l e)
took_all w n out c r u less room countable (Full x p e) = absurd (omega arith)

-- the bytes of items that were written from nothing pending, and then padded
whole : {items : List Item} {bytes : List ℕ} {out : Output} {c : ℕ} → (writable : AreWritable items bytes out c) → packed writable.laid.pieces ≡ bytes
whole {items} writable = written items writable.laid.pieces (writable.aligned) (writable.laid.are) ∙ sym (writable.laid.is)

-- what is written of them
items_laid : (items : List Item) (bytes : List ℕ) (out : Output) (c : ℕ) (r : Result (Unit {0}) DekuError) (u : Standing Output)
    → (writable : AreWritable items bytes out c) → WritesItems items false (Going out c) r u → Wrote (appended writable.laid.pieces Nothing) out c r u
items_laid items bytes out c r u writable m =
    subst (λ P. Wrote (appended writable.laid.pieces P) out c r u) (writable.none)
    (items_wrote items writable.laid.pieces (writable.fitting) (writable.laid.are) out c r u m)

-- an outcome over a sink that does not fail
pub laid_written : (items : List Item) {r : Result (Unit {0}) DekuError} {s u : Standing Output} {f g : Health}
    → Outcome (WritesItems items) s f r u g → Unfailing f g → WritesLaid items s r u
laid_written items {r} {s} {u} o calm bytes out c writable e =
    let w : Written = appended writable.laid.pieces Nothing in
    let all : w.bytes ++ padded w.pending ≡ bytes = whole writable in
    let less : length w.bytes ≤ length bytes = subst (λ x. length w.bytes ≤ length x) all (omega (arith, length-append w.bytes (padded w.pending))) in
    let m : WritesItems items false (Going out c) r u = subst (λ x. WritesItems items false x r u) e (sound o calm) in
    let k = took_all w (length bytes) out c r u less (writable.room) (writable.countable) (items_laid items bytes out c r u writable m) in
    ⊎_elim (λ t. inl (t.0, record { written = w; whole = all; after = t.1.0; took = t.1.1; stands = t.1.2 })) (λ n. inr n) k

pub padded_law : PaddedLaw
padded_law items bytes out c r u writable m =
    let ps : List Piece = writable.laid.pieces in
    let w : Written = followed (appended ps Nothing) finalized in
    let both : Wrote w out c r u = followed_wrote (appended ps Nothing) finalized out c (WritesItems items) (λ _. Finalizes) r u
    (λ x y n. items_laid items bytes out c x y writable n)
    (λ mid d x y n. emitted finalized mid d x y n) m in
    let all : w.bytes ≡ bytes = whole writable in
    let less : length w.bytes ≤ length bytes = subst (λ x. length w.bytes ≤ length x) all (omega arith) in
    let k = took_all w (length bytes) out c r u less (writable.room) (writable.countable) both in
    subst (λ x. TookAll (record { bytes = x; pending = Nothing }) out c r u ⊎ FindsNoMemory out.room r) all k
