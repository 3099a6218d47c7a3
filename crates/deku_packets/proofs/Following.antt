-- Names of the domain name system, one step at a time.
use Rattle.std.proofs.Common.{◌≡◌, ℕ, zero, suc, ◌+◌, ◌<◌, List, length, get_or, Result, Ok, Err, Some, slice_get, refl, codes, arith}
use Rattle.std.proofs.lemmas.Option.{slice_get_read}
use Rattle.deku_packets.specs.declared.name.Astray.{Astray}
use Rattle.deku_packets.specs.Names.{Says, IsLabel, IsPointer, IsWrong, Follows, TooLong, Ends, AfterLabel, ByPointer, Wrong}

-- the byte that a lookup found
pub first_byte : (message : List ℕ) (at byte : ℕ) → at < length message → byte ≡ get_or message at byte → slice_get message at ≡ Some byte
first_byte message at byte inside is = slice_get_read message (length message) at byte refl inside is

-- ---- what is at a place
pub too_long : (message : List ℕ) (start at left : ℕ) (e : Astray) → left ≡ 0 → Says at (codes "name too long") e → Follows message start at left (Err e)
too_long message start at zero e none says = TooLong start at e says
too_long message start at (suc left) e none says = absurd (omega (arith, none))

pub wrong_here : (message : List ℕ) (start at left : ℕ) (e : Astray) → 0 < left → IsWrong message start at e → Follows message start at left (Err e)
wrong_here message start at zero e some wrong = absurd (omega (arith, some))
wrong_here message start at (suc left) e some wrong = Wrong start at left e wrong

pub ends_here : (message : List ℕ) (start at left : ℕ) → 0 < left → slice_get message at ≡ Some 0 → Follows message start at left (Ok tt)
ends_here message start at zero some zero_byte = absurd (omega (arith, some))
ends_here message start at (suc left) some zero_byte = Ends start at left zero_byte

pub label_here : (message : List ℕ) (start at count next left rest : ℕ) (r : Result (Unit {0}) Astray) → left ≡ rest + 1 → IsLabel message at count → next ≡ at + count + 1
    → Follows message start next rest r → Follows message start at left r
label_here message start at count next zero rest r more label is follows = absurd (omega (arith, more))
label_here message start at count next (suc left) rest r more label is follows =
    let same : rest ≡ left = omega (arith, more) in
    AfterLabel start at count left r label (rw (is, same) at follows)

pub pointer_here : (message : List ℕ) (start at to left rest : ℕ) (r : Result (Unit {0}) Astray) → left ≡ rest + 1 → IsPointer message at to → to < start
    → Follows message to to rest r → Follows message start at left r
pointer_here message start at to zero rest r more pointer below follows = absurd (omega (arith, more))
pointer_here message start at to (suc left) rest r more pointer below follows =
    let same : rest ≡ left = omega (arith, more) in
    ByPointer start at to left r pointer below (rw same at follows)
