-- Bytes as numbers of eight bits.
use Rattle.std.proofs.Common.{ℕ, ◌<◌, ◌≤◌, List, length, get_or, All, arith, ⊎_elim}
use Rattle.std.proofs.lemmas.Bool.{cases_lt}
use Rattle.std.proofs.lemmas.List.{get_or_past}
use Rattle.std.proofs.lemmas.List.Elements.{All-get_or}

-- a number of eight bits
abbrev pub IsByte : ℕ → Type 0
IsByte b = b < 256

-- and zero after the last
pub each_byte : (bs : List ℕ) → All IsByte bs → (i : ℕ) → get_or bs i 0 < 256
each_byte bs h i = ⊎_elim
    (λ (inside : i < length bs). All-get_or IsByte bs i 0 inside h)
    (λ (past : length bs ≤ i). rw (get_or_past bs i 0 past) (omega arith))
    (cases_lt i (length bs))
