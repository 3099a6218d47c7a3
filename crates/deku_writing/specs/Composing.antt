-- How the meanings of items make the meaning of a composite, and of a list that is written.
pub use Rattle.deku_meanings.specs.Composing.{Answer, Answered, Then, Second, First, JoinedBy, PairOf, Both}
use Rattle.std.specs.Prelude.{List, [], ◌∷◌}
use Rattle.deku_bits.specs.Outcomes.{Meaning}

-- Items are written one after the other.
abbrev pub WritesEach : {A V : Type 0} → (V → Meaning A (Unit {0})) → List V → Meaning A (Unit {0})
WritesEach m [] = Answer tt
WritesEach m (v ∷ vs) = Both (m v) (WritesEach m vs)
