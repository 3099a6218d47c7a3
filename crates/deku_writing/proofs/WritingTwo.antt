-- Two writes in place of one.
use Rattle.std.proofs.Common.{◌≡◌, ℕ, ◌+◌, ◌*◌, ◌<◌, Bool, false, List, ◌++◌, length, drop, Option, Some, None, Ok, refl, sym, ap, ◌∙◌, subst, inl, inr, arith, append_assoc, length-append, length-drop}
use Rattle.std.specs.Prelude.{option_map}
use Rattle.std.specs.Io.KnownBytes.{Appends, append_known}
use Rattle.std.proofs.lemmas.List.{drop-drop}
use Rattle.deku_bits.specs.declared.ctx.Order.{Order}
use Rattle.deku_bits.specs.Bits.{facing, shown}
use Rattle.deku_bits.specs.Devices.{KnownSink, Shrinks}
use Rattle.deku_bits.specs.Writers.{Pending, Written, append, cut, pending_bits, remainder, Meets}
use Rattle.deku_bits.specs.Standings.{Standing, Going, Stopped, Output, writer_state}
use Rattle.deku_bits.specs.WriterCalls.{WritesBits, Took, pending_of}
use Rattle.deku_bits.proofs.Appends.{append_law}
use Rattle.deku_bits.proofs.Writing.{append_is, meets_held}
use Rattle.deku_writing.specs.Words.{Follows}

pub follows : (o : Order) (known : KnownSink) (s : Standing Pending) → Meets o (pending_of s) → Follows o (writer_state known s)
follows o known (Going p c) h = h
follows o known (Stopped p e c) h = tt

-- what is known of a sink between the two
appends_apart : (old new : Option (List ℕ)) (xs ys : List ℕ) → Appends old new (xs ++ ys) → Appends old (append_known old xs) xs × Appends (append_known old xs) new ys
appends_apart None new xs ys p = (tt, tt)
appends_apart (Some zs) None xs ys p = absurd p
appends_apart (Some zs) (Some ws) xs ys p = (refl, p ∙ sym (append_assoc zs xs ys))

abbrev less : ℕ → Option (List ℕ) → Option (List ℕ)
less n room = option_map (drop n) room

shrinks_apart : (old new : Option (List ℕ)) (m n : ℕ) → Shrinks old new (m + n) → Shrinks old (less m old) m × Shrinks (less m old) new n
shrinks_apart None None m n p = (tt, tt)
shrinks_apart None (Some s) m n p = absurd p
shrinks_apart (Some r) None m n p = absurd p
shrinks_apart (Some r) (Some s) m n (few, is) =
    let left = length-drop m r in
    ((omega (arith, few), refl), (omega (arith, few, left), is ∙ ap (λ k. drop k r) (omega arith) ∙ sym (drop-drop n m r)))

-- the first bits, and then the others
pub written_two : (o : Order) (s t : List Bool) (x u : Standing Output) → 0 < length s → Follows o x → WritesBits o (shown o (s ++ t)) false x (Ok tt) u
    → (y : Standing Output) × WritesBits o (shown o s) false x (Ok tt) y × WritesBits o (shown o t) false y (Ok tt) u × Follows o y
written_two o s t (Stopped a e c) u some h p = let no = p.0 in absurd (cc)
written_two o s t (Going out c) u some h (inl p) = let no = p.1.2 in absurd (cc)
written_two o s t (Going out c) u some h (inr (room, inr p)) = let no = p.3 in absurd (cc)
written_two o s t (Going out c) u some h (inr (room, inl (after, took, e, stands))) =
    let P = out.pending in
    let all : Written = append o (shown o (s ++ t)) P in
    let first : Written = append o (shown o s) P in
    let second : Written = append o (shown o t) first.pending in
    let law : all ≡ record { bytes = first.bytes ++ second.bytes; pending = second.pending } = append_law o s t P h in
    let bytes : all.bytes ≡ first.bytes ++ second.bytes = ap (λ W. W.bytes) law in
    let count : length all.bytes ≡ length first.bytes + length second.bytes = ap length bytes ∙ length-append first.bytes second.bytes in
    let taken = appends_apart out.taken after.taken first.bytes second.bytes (subst (Appends out.taken after.taken) bytes took.taken) in
    let left = shrinks_apart out.room after.room (length first.bytes) (length second.bytes) (subst (Shrinks out.room after.room) count took.room) in
    let between : Output = record { taken = append_known out.taken first.bytes; room = less (length first.bytes) out.room; pending = first.pending } in
    let one : Took first out between = record { taken = taken.0; room = left.0; pending = refl } in
    let two : Took second between after = record { taken = taken.1; room = left.1; pending = took.pending ∙ ap (λ W. W.pending) law } in
    let k : ℕ = c + 8 * length first.bytes in
    let sum : c + 8 * length all.bytes ≡ k + 8 * length second.bytes = omega (arith, count) in
    let is : first ≡ cut o (facing o (pending_bits P) ++ s) = append_is o s P some h in (
      Going between k,
      inr (omega (arith, room, sum), inl (between, one, refl, refl)),
      inr (omega (arith, room, sum), inl (after, two, refl, stands ∙ ap (λ n. Going after n) sum)),
      subst (Meets o) (sym (ap (λ W. W.pending) is)) (meets_held o (facing o (remainder (facing o (pending_bits P) ++ s)))),
    )
