-- Texts of decimal digits.
use Rattle.std.proofs.Common.{ℕ, List, [], ◌∷◌, All}
use Rattle.std.proofs.lemmas.List.Elements.{All-cons, All-head, All-nil, All-tail}
use Rattle.std.proofs.lemmas.Str.Parse.{tells_digits}
use Rattle.std.specs.Int.{IsInRange}
use Rattle.std.specs.Str.Parse.{AllDigits}

-- a byte that is a digit
abbrev pub IsDigit : ℕ → Type 0
IsDigit c = IsInRange 48 57 c

pub each_digit : (ds : List ℕ) → AllDigits 10 ds → All IsDigit ds
each_digit [] d = All-nil IsDigit
each_digit (c ∷ cs) d = let p = tells_digits.parts c cs d in All-cons IsDigit c cs p.0 (each_digit cs p.1)

pub all_digits : (ds : List ℕ) → All IsDigit ds → AllDigits 10 ds
all_digits [] all = tt
all_digits (c ∷ cs) all = tells_digits.more c cs (All-head IsDigit c cs all) (all_digits cs (All-tail IsDigit c cs all))
