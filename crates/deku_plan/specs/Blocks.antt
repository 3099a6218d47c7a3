-- Records that are joined a field at a time: the words of their groups.
use Rattle.std.specs.Prelude.{ℕ, zero, suc, ◌+◌, ◌*◌, Bool, List, [], ◌∷◌, ◌++◌, take}
use Rattle.std.specs.Int.{w64, to_be_bytes}
use Rattle.deku_bits.specs.Bits.{bits_in}
use Rattle.deku_fields.specs.declared.list.Number.{Number}
use Rattle.deku_fields.specs.declared.list.Number.TheVariants.{Unsigned}
use Rattle.deku_plan.specs.declared.part.Part.{Part}

-- ---- groups
-- A group of so many bytes before others, if it ends here.
abbrev pub with_size : ℕ → List ℕ → List ℕ
with_size zero sizes = sizes
with_size (suc b) sizes = suc b ∷ sizes

-- How many bytes each group has that ends with one of the parts.
abbrev pub group_sizes : List Part → List ℕ
group_sizes [] = []
group_sizes (p ∷ ps) = with_size p.bytes (group_sizes ps)

-- How many bytes groups have together.
abbrev pub all_sizes : List ℕ → ℕ
all_sizes [] = 0
all_sizes (b ∷ bs) = b + all_sizes bs

-- ---- words
-- Words by their index, with a value added to the first, or before them if its group ends here.
abbrev pub with_first : ℕ → ℕ → (ℕ → ℕ) → ℕ → ℕ
with_first zero v words zero = v + words zero
with_first zero v words (suc k) = words (suc k)
with_first (suc b) v words zero = v
with_first (suc b) v words (suc k) = words k

-- The words of groups by their index: the sum of the values of each, in their places.
abbrev pub group_words : List Part → List Number → ℕ → ℕ
group_words (p ∷ ps) (Unsigned n ∷ ns) k = with_first p.bytes (n * p.scale) (group_words ps ns) k
group_words _ _ k = 0

-- ---- bytes
-- The bits of the first bytes of words.
abbrev pub word_bits : List ℕ → (ℕ → ℕ) → List Bool
word_bits [] words = []
word_bits (b ∷ bs) words = bits_in (take b (to_be_bytes w64 (words 0))) ++ word_bits bs (λ k. words (suc k))

-- The same for the words of so many records, one after the other.
abbrev pub words_bits : ℕ → List ℕ → (ℕ → ℕ → ℕ) → List Bool
words_bits zero bs words = []
words_bits (suc r) bs words = words_bits r bs words ++ word_bits bs (words r)
