-- Values that are read one after the other from one source.
use Rattle.std.proofs.Common.{◌≡◌, ℕ, Bool, false, List, drop, Option, Some, Ok, IfSome, refl, ap, ◌∙◌, subst, []}
use Rattle.deku.specs.Bits.{groups}
use Rattle.deku.specs.Streams.{Stream}
use Rattle.deku.specs.Standings.{Standing, Going, count_of, reader_state}
use Rattle.deku.specs.Outcomes.{Meaning}
use Rattle.deku.specs.Wholes.{FromFirst}
use Rattle.deku.proofs.Containers.{starts_fresh, counted_state}

-- a value that is read from a source which reports the bytes after those of another one
pub second_behind : {A B : Type 0} (m : Meaning (Option Stream) A) (k : Meaning (Option Stream) B) (bytes : List ℕ) (now next : Option (List ℕ)) (s : Standing (List Bool)) (v : Standing (Option Stream)) (n : ℕ) (a : A) (b : B)
    → now ≡ Some bytes → IfSome now (λ bs. next ≡ Some (drop (groups n) bs)) → n ≡ count_of s
    → m false (reader_state now (Going [] 0)) (Ok a) (reader_state next s) → k false (reader_state next (Going [] 0)) (Ok b) v
    → (u : Standing (Option Stream)) × (w : Standing (Option Stream)) × FromFirst m bytes (Ok a) u × FromFirst k (drop (groups (count_of u)) bytes) (Ok b) w
second_behind m k bytes now next s v n a b start behind count first second =
    let known : next ≡ Some (drop (groups n) bytes) = subst (λ x. IfSome x (λ bs. next ≡ Some (drop (groups n) bs))) start behind in
    let far : n ≡ count_of (reader_state next s) = counted_state next s n count in (
      reader_state next s,
      v,
      subst (λ x. m false x (Ok a) (reader_state next s)) (starts_fresh now bytes (Going [] 0) start refl) first,
      subst (λ x. k false x (Ok b) v) (starts_fresh next _ (Going [] 0) (known ∙ ap (λ i. Some (drop (groups i) bytes)) far) refl) second,
    )
