-- All bytes of a device, call after call.
use Rattle.std.proofs.Common.{◌≡◌, ℕ, ◌+◌, ◌-◌, ◌≤◌, ◌<◌, min, List, ◌++◌, length, take, drop, replicate, Option, Some, None, refl, sym, ap, ◌∙◌, arith, rules, append_assoc, drop-drop, inl, inr, subst}
use Rattle.std.proofs.lemmas.List.{take_at, places, same_lists, length-take, length-drop, length-append, drop_at, take-append-drop, drop_all, length-take-le, length-replicate, append-nil}
use Rattle.std.proofs.lemmas.Bool.{cases_lt, le-leb}
use Rattle.std.proofs.Common.{⊎_elim}
use Rattle.deku_device.specs.Devices.{Access, ReadOnly, Overwritten, Grows, Changes, Whole, Onward, Transferred, GoesOnward, Gave, bytes_before}
use Rattle.std.specs.Prelude.{Result, Ok, Err, IfErr, pos, negsuc}
use Rattle.std.specs.Io.KnownBytes.{Appends}
use Rattle.std.specs.Io.Cursor.{IsSeekResult, IsSeekFromEnd, cursor_position, cursor_inner}
use Rattle.std.specs.declared.io.SeekFrom.{SeekFrom}
use Rattle.std.specs.declared.io.SeekFrom.TheVariants.{Start, End, Current}
use Rattle.deku_device.specs.Seeking.{LeadsNowhere}
use Rattle.deku_device.specs.Cursors.{read_whole, fitting_front, reaching, known_vector}
use Rattle.deku_device.specs.Overlays.{overlaid}
use Rattle.std.specs.Global.{Vec}
use Rattle.std.specs.declared.io.Cursor.{Cursor}

changes_on : (a : Access) (x y z : List ℕ) → Changes a x y → Changes a y z → Changes a x z
changes_on ReadOnly x y z p q = q ∙ p
changes_on Overwritten x y z p q = q ∙ p
changes_on Grows x y z p q = tt

changes_same : (a : Access) (x : List ℕ) → Changes a x x
changes_same ReadOnly x = refl
changes_same Overwritten x = refl
changes_same Grows x = tt

-- a front of a front
front_of : (p q : ℕ) (a s : List ℕ) → p ≤ q → take q (take p a ++ s) ≡ take p a ++ take (q - length (take p a)) s
front_of p q a s le = let n : length (take p a) ≡ min p (length a) = length-take p a in
    same_lists _ _ (search (rules, places)) (λ k d h. grind (arith, places))

-- what is after a place is after each one further on
later_back : (q r : ℕ) (a b : List ℕ) → q ≤ r → drop q b ≡ drop q a → drop r b ≡ drop r a
later_back q r a b le e =
    let n : q + (r - q) ≡ r = omega arith in
    ap (λ k. drop k b) (sym n) ∙ sym (drop-drop (r - q) q b) ∙ ap (drop (r - q)) e ∙ drop-drop (r - q) q a ∙ ap (λ k. drop k a) n

onward_then : (u v w : Whole) → Onward u v → Onward v w → Onward u w
onward_then u v w p q =
    let s : List ℕ = p.front.0 in
    let t : List ℕ = q.front.0 in
    let first : take v.place v.bytes ≡ take u.place u.bytes ++ take (v.place - length (take u.place u.bytes)) s = ap (take v.place) p.front.1 ∙ front_of u.place v.place u.bytes s p.place in
    let part : List ℕ = take (v.place - length (take u.place u.bytes)) s in
    record {
      access = q.access ∙ p.access;
      place = omega (arith, p.place, q.place);
      front = (part ++ t, q.front.1 ∙ ap (λ x. x ++ t) first ∙ append_assoc (take u.place u.bytes) part t);
      back = q.back ∙ later_back v.place w.place u.bytes v.bytes q.place p.back;
      size = changes_on u.access u.bytes v.bytes w.bytes p.size (rw p.access at q.size);
    }

onward_stays : (w : Whole) → Onward w w
onward_stays w = record {
  access = refl;
  place = omega arith;
  front = (drop w.place w.bytes, sym (take-append-drop w.place w.bytes));
  back = refl;
  size = changes_same w.access w.bytes;
}

-- where nothing moved, a transfer went on by no byte
pub transferred : (f g : Option Whole) → GoesOnward f g → Transferred f g
transferred None g p = tt
transferred (Some w) None (inl e) = cc
transferred (Some w) None (inr p) = p
transferred (Some w) (Some v) (inl e) = let same : v ≡ w = cc in subst (λ x. Onward w x) (sym same) (onward_stays w)
transferred (Some w) (Some v) (inr p) = p

-- two transfers
both : (f g h : Option Whole) → Transferred f g → Transferred g h → Transferred f h
both None g h p q = tt
both (Some u) None h p q = absurd p
both (Some u) (Some v) None p q = absurd q
both (Some u) (Some v) (Some w) p q = onward_then u v w p q

-- two calls
pub onward_on : (f g h : Option Whole) → GoesOnward f g → GoesOnward g h → GoesOnward f h
onward_on f g h p q = inr (both f g h (transferred f g p) (transferred g h q))

-- no call
pub onward_same : (f : Option Whole) → GoesOnward f f
onward_same f = inl refl

-- a source goes on among the same bytes
pub read_onward : (p q : ℕ) (t u : Option (List ℕ)) → u ≡ t → p ≤ q → GoesOnward (read_whole p t) (read_whole q u)
read_onward p q None u e le = inr tt
read_onward p q (Some x) None e le = cc
read_onward p q (Some x) (Some y) e le = let same : y ≡ x = cc in inr (record {
  access = refl;
  place = le;
  front = (drop p x, same ∙ sym (take-append-drop p x));
  back = ap (drop q) same;
  size = same;
})

-- bytes over a slice
over_slice : (a : List ℕ) (p : ℕ) (bytes : List ℕ) → (length (overlaid a p (fitting_front a p bytes)) ≡ length a)
    × (drop (p + length (fitting_front a p bytes)) (overlaid a p (fitting_front a p bytes)) ≡ drop (p + length (fitting_front a p bytes)) a)
over_slice a p bytes =
    let n : length (fitting_front a p bytes) ≡ min (length a - p) (length bytes) = length-take (length a - p) bytes in
    let all : length (overlaid a p (fitting_front a p bytes)) ≡ length a = simp (length-append, length-take, length-drop) (omega arith) in (
      all,
      ⊎_elim
          (λ (past : length a < p). let none : length (fitting_front a p bytes) ≡ 0 = omega arith in
          drop_all (p + length (fitting_front a p bytes)) (overlaid a p (fitting_front a p bytes)) (omega arith) ∙ sym (drop_all (p + length (fitting_front a p bytes)) a (omega arith)))
          (λ (inside : p ≤ length a). let front : length (take p a ++ fitting_front a p bytes) ≡ p + length (fitting_front a p bytes) = length-append (take p a) (fitting_front a p bytes) ∙ ap (λ k. k + length (fitting_front a p bytes)) (length-take-le p a inside) in
          drop_at (take p a ++ fitting_front a p bytes) (drop (p + length (fitting_front a p bytes)) a) (p + length (fitting_front a p bytes)) front)
          (cases_lt (length a) p),
    )

-- as many bytes as fit were laid over a slice
pub slice_onward : (a b : List ℕ) (p q : ℕ) (bytes : List ℕ) → b ≡ overlaid a p (fitting_front a p bytes) → q ≡ p + length (fitting_front a p bytes)
    → GoesOnward (Some (record { place = p; bytes = a; access = Overwritten })) (Some (record { place = q; bytes = b; access = Overwritten }))
slice_onward a b p q bytes e n = let over = over_slice a p bytes in inr (record {
  access = refl;
  place = omega arith;
  front = (fitting_front a p bytes ++ drop (p + length (fitting_front a p bytes)) a, e ∙ append_assoc (take p a) (fitting_front a p bytes) (drop (p + length (fitting_front a p bytes)) a));
  back = rw (e, n) (over.1);
  size = rw e (over.0);
})

front_append : (p : ℕ) (a z : List ℕ) → take p (a ++ z) ≡ take p a ++ take (p - length a) z
front_append p a z = same_lists _ _ (search (rules, places)) (λ k d h. grind (arith, places))

-- up to a place, filled with zeros where it is past the end
reached : (a : List ℕ) (p : ℕ) → (length (take p (reaching p a)) ≡ p) × ((rest : List ℕ) × (take p (reaching p a) ≡ take p a ++ rest))
reached a p =
    let n : p ≤ length (reaching p a) = simp (length-append, length-replicate) (omega arith) in
    (length-take-le p (reaching p a) n, (take (p - length a) (replicate (p - length a) 0), front_append p a (replicate (p - length a) 0)))

-- what is after, where zeros filled up
behind_reached : (a : List ℕ) (p n : ℕ) → drop (p + n) (reaching p a) ≡ drop (p + n) a
behind_reached a p n = ⊎_elim
    (λ (past : length a < p). let m : length (reaching p a) ≤ p + n = simp (length-append, length-replicate) (omega arith) in
    drop_all (p + n) (reaching p a) m ∙ sym (drop_all (p + n) a (omega arith)))
    (λ (inside : p ≤ length a). let none : p - length a ≡ 0 = omega arith in
    ap (λ k. drop (p + n) (a ++ replicate k 0)) none ∙ ap (drop (p + n)) (append-nil a))
    (cases_lt (length a) p)

-- bytes were laid over a vector
pub vector_onward : (a b : List ℕ) (p q : ℕ) (bytes : List ℕ) → b ≡ overlaid (reaching p a) p bytes → q ≡ p + length bytes
    → GoesOnward (Some (record { place = p; bytes = a; access = Grows })) (Some (record { place = q; bytes = b; access = Grows }))
vector_onward a b p q bytes e n =
    let r = reached a p in
    let front : length (take p (reaching p a) ++ bytes) ≡ p + length bytes = length-append (take p (reaching p a)) bytes ∙ ap (λ k. k + length bytes) (r.0) in
    let tail : List ℕ = drop (p + length bytes) (reaching p a) in
    let back : drop (p + length bytes) (overlaid (reaching p a) p bytes) ≡ drop (p + length bytes) a =
    drop_at (take p (reaching p a) ++ bytes) tail (p + length bytes) front ∙ behind_reached a p (length bytes) in
    inr (record {
      access = refl;
      place = omega arith;
      front = (r.1.0 ++ (bytes ++ tail), e ∙ append_assoc (take p (reaching p a)) bytes tail ∙ ap (λ x. x ++ (bytes ++ tail)) (r.1.1) ∙ append_assoc (take p a) (r.1.0) (bytes ++ tail));
      back = rw (e, n) back;
      size = tt;
    })

-- and the bytes before the new place are the old ones and these, where the place was not past the end
taken_onward : (a b : List ℕ) (p q : ℕ) (bytes : List ℕ) → p ≤ length a → b ≡ overlaid a p bytes → q ≡ p + length bytes → Appends (bytes_before p a) (bytes_before q b) bytes
taken_onward a b p q bytes le e n =
    let front : length (take p a ++ bytes) ≡ q = length-append (take p a) bytes ∙ ap (λ k. k + length bytes) (length-take-le p a le) ∙ sym n in
    let part : take q b ≡ take p a ++ bytes = ap (take q) e ∙ take_at (take p a ++ bytes) (drop (p + length bytes) a) q front in
    let inside : q ≤ length b = omega (arith, ap length e, length-append (take p a ++ bytes) (drop (p + length bytes) a), front) in
    rw (le-leb p (length a) le, le-leb q (length b) inside) part

-- bytes were laid over a vector, from a place in it on
pub vector_laid : (c d : Cursor (Vec ℕ)) (bytes : List ℕ) → cursor_position c ≤ length (cursor_inner c).items → (cursor_inner d).items ≡ overlaid (cursor_inner c).items (cursor_position c) bytes
    → cursor_position d ≡ cursor_position c + length bytes → Gave (known_vector c) (known_vector d) bytes
vector_laid c d bytes le e n =
    let a : List ℕ = (cursor_inner c).items in
    let p : ℕ = cursor_position c in
    let none : p - length a ≡ 0 = omega arith in
    let same : reaching p a ≡ a = ap (λ k. a ++ replicate k 0) none ∙ append-nil a in
    record {
      taken = taken_onward a (cursor_inner d).items p (cursor_position d) bytes le e n;
      room = tt;
      health = record { failures = omega arith; lenders = refl; whole = vector_onward a (cursor_inner d).items p (cursor_position d) bytes (e ∙ ap (λ x. overlaid x p bytes) (sym same)) n };
    }

-- a cursor that is not refused leads to its target, and one that is refused leads nowhere
pub nowhere : {E : Type 0} (w : Whole) (to : SeekFrom) (r : Result ℕ E) → IsSeekResult to w.place r → IsSeekFromEnd to (length w.bytes) r → IfErr r (λ e. LeadsNowhere w to)
nowhere w to (Ok n) p q = tt
nowhere w (Start n) (Err e) p q = cc
nowhere w (End (pos n)) (Err e) p q = omega (arith, q)
nowhere w (End (negsuc n)) (Err e) p q = omega (arith, q)
nowhere w (Current (pos n)) (Err e) p q = omega (arith, p)
nowhere w (Current (negsuc n)) (Err e) p q = omega (arith, p)
